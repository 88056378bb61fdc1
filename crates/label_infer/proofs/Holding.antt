-- Rows that tell which variables have each label.
use Rattle.std.proofs.Common.{◌≡◌, ℕ, zero, suc, ◌+◌, ◌<◌, ◌≤◌, refl, sym, ap, ◌∙◌, subst, List, [], ◌∷◌, ◌++◌, length, get_or, slice_set, arith}
use Rattle.std.proofs.Common.{⊎_elim}
use Rattle.std.specs.Prelude.{Bool, true, false, not, ◌||◌, ◌&&◌, eqb, Option, None, Some, slice_get}
use Rattle.std.proofs.lemmas.Bool.{cases_lt, cases_eq, eq-eqb, ne_eqb, eqb-true, both_ways}
use Rattle.std.proofs.lemmas.Option.{none-some, same_Some, slice_get_within, slice_get-get_or, get_or_from_slice_get}
use Rattle.label_lattice.specs.declared.label.Label.{Label}
use Rattle.label_lattice.specs.Lattice.{Lattice, Flows, IsLattice}
use Rattle.timing_types.specs.Labelling.{label_at}
use Rattle.label_infer.specs.declared.row.Row.{Row}
use Rattle.label_infer.specs.Rows.{has_in, Meet}
use Rattle.label_infer.specs.Constraints.{value_from}
use Rattle.label_infer.specs.Holders.{is_label, has_label, Tell}
use Rattle.label_infer.proofs.Values.{base_up, has_up, value_least}

-- lists by place
pub get_set_same : {A : Type 0} (xs : List A) (i : ℕ) (v : A) → i < length xs → slice_get (slice_set xs i v) i ≡ Some v
get_set_same [] i v h = absurd (omega (arith, h))
get_set_same (x ∷ xs) zero v h = refl
get_set_same (x ∷ xs) (suc i) v h = get_set_same xs i v (omega (arith, h))

pub get_set_other : {A : Type 0} (xs : List A) (i j : ℕ) (v : A) → (j ≡ i → ⊥) → slice_get (slice_set xs i v) j ≡ slice_get xs j
get_set_other [] i j v n = refl
get_set_other (x ∷ xs) zero zero v n = absurd (n refl)
get_set_other (x ∷ xs) zero (suc j) v n = refl
get_set_other (x ∷ xs) (suc i) zero v n = refl
get_set_other (x ∷ xs) (suc i) (suc j) v n = get_set_other xs i j v (λ e. n (ap suc e))

pub get_push_same : {A : Type 0} (xs : List A) (v : A) → slice_get (xs ++ v ∷ []) (length xs) ≡ Some v
get_push_same [] v = refl
get_push_same (x ∷ xs) v = get_push_same xs v

get_push_other : {A : Type 0} (xs : List A) (v : A) (j : ℕ) → (j ≡ length xs → ⊥) → slice_get (xs ++ v ∷ []) j ≡ slice_get xs j
get_push_other [] v zero n = absurd (n refl)
get_push_other [] v (suc j) n = refl
get_push_other (x ∷ xs) v zero n = refl
get_push_other (x ∷ xs) v (suc j) n = get_push_other xs v j (λ e. n (ap suc e))

get_end : {A : Type 0} (xs : List A) → slice_get xs (length xs) ≡ None
get_end [] = refl
get_end (x ∷ xs) = get_end xs

or_none : (b : Bool) → (b || false) ≡ b
or_none true = refl
or_none false = refl

and_all : (b : Bool) → (b && true) ≡ b
and_all true = refl
and_all false = refl

and_none : (b : Bool) → (b && false) ≡ false
and_none true = refl
and_none false = refl

abbrev pub more_of : (ℕ → ℕ → Bool) → ℕ → ℕ → ℕ → ℕ → Bool
more_of p a x l y = p l y || (eqb a l && eqb x y)

abbrev pub less_of : (ℕ → ℕ → Bool) → ℕ → ℕ → ℕ → ℕ → Bool
less_of p a x l y = p l y && not (eqb a l && eqb x y)

-- rows that are the same
pub tell_same : (p : ℕ → ℕ → Bool) (rows rows' : List Row) → rows' ≡ rows → Tell rows p → Tell rows' p
tell_same p rows rows' e t = subst (λ z. Tell z p) (sym e) t

pub room_same : (labels labels' : List Label) (m : ℕ) → labels' ≡ labels → ((x : ℕ) (a : Label) → slice_get labels x ≡ Some a → a.number < m)
    → (x : ℕ) (a : Label) → slice_get labels' x ≡ Some a → a.number < m
room_same labels labels' m e f x a g = f x a (ap (λ z. slice_get z x) (sym e) ∙ g)

-- one row with one variable more or less
set_is : (rows : List Row) (i l : ℕ) (r' s : Row) → i < length rows → l ≡ i → slice_get (slice_set rows i r') l ≡ Some s → r' ≡ s
set_is rows i l r' s h q g = same_Some r' s (sym (get_set_same rows i r' h) ∙ ap (slice_get (slice_set rows i r')) (sym q) ∙ g)

pub tell_more : (rows : List Row) (p : ℕ → ℕ → Bool) (i x : ℕ) (r r' : Row) → slice_get rows i ≡ Some r
    → has_in r'.words.items ≡ (λ y. has_in r.words.items y || eqb x y) → Tell rows p →
    Tell (slice_set rows i r') (more_of p i x)
tell_more rows p i x r r' e h t l s g y = ⊎_elim
    (λ (q : l ≡ i).
    let is = set_is rows i l r' s (slice_get_within rows i r e) q g in
    ap (λ (z : Row). has_in z.words.items y) (sym is) ∙ ap (λ (f : ℕ → Bool). f y) h ∙ ap (λ z. z || eqb x y) (t i r e y)
    ∙ ap (λ z. p z y || eqb x y) (sym q) ∙ ap (λ z. p l y || (z && eqb x y)) (sym (eq-eqb i l (sym q))))
    (λ (n : l ≡ i → ⊥).
    t l s (sym (get_set_other rows i l r' n) ∙ g) y ∙ sym (ap (λ z. p l y || (z && eqb x y)) (ne_eqb i l (λ q. n (sym q))) ∙ or_none (p l y)))
    (cases_eq l i)

pub tell_less : (rows : List Row) (p : ℕ → ℕ → Bool) (i x : ℕ) (r r' : Row) → slice_get rows i ≡ Some r
    → has_in r'.words.items ≡ (λ y. has_in r.words.items y && not (eqb x y)) → Tell rows p →
    Tell (slice_set rows i r') (less_of p i x)
tell_less rows p i x r r' e h t l s g y = ⊎_elim
    (λ (q : l ≡ i).
    let is = set_is rows i l r' s (slice_get_within rows i r e) q g in
    ap (λ (z : Row). has_in z.words.items y) (sym is) ∙ ap (λ (f : ℕ → Bool). f y) h ∙ ap (λ z. z && not (eqb x y)) (t i r e y)
    ∙ ap (λ z. p z y && not (eqb x y)) (sym q) ∙ ap (λ z. p l y && not (z && eqb x y)) (sym (eq-eqb i l (sym q))))
    (λ (n : l ≡ i → ⊥).
    t l s (sym (get_set_other rows i l r' n) ∙ g) y ∙ sym (ap (λ z. p l y && not (z && eqb x y)) (ne_eqb i l (λ q. n (sym q))) ∙ and_all (p l y)))
    (cases_eq l i)

-- no variables
pub told_empty : (rows : List Row) → rows ≡ [] → Tell rows (λ l y. false)
told_empty rows e l r g y = absurd (none-some r (sym (ap (λ z. slice_get z l) e) ∙ g))

pub tell_push : (rows rows' : List Row) (r : Row) → rows' ≡ rows ++ r ∷ [] → has_in r.words.items ≡ (λ y. false) → Tell rows (λ l y. false)
    → Tell rows' (λ l y. false)
tell_push rows rows' r e h t l s g y =
    let there : slice_get (rows ++ r ∷ []) l ≡ Some s = ap (λ z. slice_get z l) (sym e) ∙ g in
    ⊎_elim
    (λ (q : l ≡ length rows).
    let is : r ≡ s = same_Some r s (sym (get_push_same rows r) ∙ ap (slice_get (rows ++ r ∷ [])) (sym q) ∙ there) in
    ap (λ (z : Row). has_in z.words.items y) (sym is) ∙ ap (λ (f : ℕ → Bool). f y) h)
    (λ (n : l ≡ length rows → ⊥). t l s (sym (get_push_other rows r l n) ∙ there) y)
    (cases_eq l (length rows))

pub told_none : (rows : List Row) (labels : List Label) → labels ≡ [] → Tell rows (λ l y. false) → Tell rows (has_label labels)
told_none rows labels e t = subst (λ z. Tell rows (has_label z)) (sym e) t

pub room_none : (labels : List Label) (m : ℕ) → labels ≡ [] → (x : ℕ) (a : Label) → slice_get labels x ≡ Some a → a.number < m
room_none labels m e x a g = absurd (none-some a (sym (ap (λ z. slice_get z x) e) ∙ g))

-- one variable more
told_end : (labels : List Label) (a : Label) (rows : List Row) → Tell rows (more_of (has_label labels) a.number (length labels))
    → Tell rows (has_label (labels ++ a ∷ []))
told_end labels a rows t l r e y = t l r e y ∙ ⊎_elim
    (λ (q : y ≡ length labels).
    ap (λ z. has_label labels l y || (eqb a.number l && z)) (eq-eqb (length labels) y (sym q))
    ∙ ap (λ z. is_label z l || (eqb a.number l && true)) (ap (slice_get labels) q ∙ get_end labels)
    ∙ and_all (eqb a.number l)
    ∙ sym (ap (λ z. is_label z l) (ap (slice_get (labels ++ a ∷ [])) q ∙ get_push_same labels a)))
    (λ (n : y ≡ length labels → ⊥).
    ap (λ z. has_label labels l y || (eqb a.number l && z)) (ne_eqb (length labels) y (λ q. n (sym q)))
    ∙ ap (λ z. has_label labels l y || z) (and_none (eqb a.number l))
    ∙ or_none (has_label labels l y)
    ∙ sym (ap (λ z. is_label z l) (get_push_other labels a y n)))
    (cases_eq y (length labels))

pub told_push : (labels : List Label) (a : Label) (rows : List Row) → (n : ℕ) → n ≡ length labels → Tell rows (more_of (has_label labels) a.number n)
    → (labels' : List Label) → labels' ≡ labels ++ a ∷ [] → Tell rows (has_label labels')
told_push labels a rows n en t0 labels' el =
    subst (λ z. Tell rows (has_label z)) (sym el) (told_end labels a rows (subst (λ z. Tell rows (more_of (has_label labels) a.number z)) en t0))

pub room_push : (labels : List Label) (a : Label) (m m' : ℕ) → ((x : ℕ) (b : Label) → slice_get labels x ≡ Some b → b.number < m) → m ≤ m' → a.number < m' →
    (x : ℕ) (b : Label) → slice_get (labels ++ a ∷ []) x ≡ Some b → b.number < m'
room_push labels a m m' f le new x b e = ⊎_elim
    (λ (q : x ≡ length labels).
    let is : a ≡ b = same_Some a b (sym (get_push_same labels a) ∙ ap (slice_get (labels ++ a ∷ [])) (sym q) ∙ e) in
    subst (λ (z : Label). z.number < m') is new)
    (λ (n : x ≡ length labels → ⊥). let h = f x b (sym (get_push_other labels a x n) ∙ e) in omega (arith, h, le))
    (cases_eq x (length labels))

-- another label for a variable
moved : (o : Bool) (n : Bool) → ((o && not (o && true)) || (n && true)) ≡ n
moved true true = refl
moved true false = refl
moved false true = refl
moved false false = refl

stayed : (h o n : Bool) → ((h && not (o && false)) || (n && false)) ≡ h
stayed true true true = refl
stayed true true false = refl
stayed true false true = refl
stayed true false false = refl
stayed false o true = refl
stayed false o false = refl

pub told_set : (labels : List Label) (x : ℕ) (old a : Label) (rows : List Row) → slice_get labels x ≡ Some old →
    Tell rows (more_of (less_of (has_label labels) old.number x) a.number x) → Tell rows (has_label (slice_set labels x a))
told_set labels x old a rows is t l r e y = t l r e y ∙ ⊎_elim
    (λ (q : y ≡ x).
    ap (λ z. (has_label labels l y && not (eqb old.number l && z)) || (eqb a.number l && z)) (eq-eqb x y (sym q))
    ∙ ap (λ z. (is_label z l && not (eqb old.number l && true)) || (eqb a.number l && true)) (ap (slice_get labels) q ∙ is)
    ∙ moved (eqb old.number l) (eqb a.number l)
    ∙ sym (ap (λ z. is_label z l) (ap (slice_get (slice_set labels x a)) q ∙ get_set_same labels x a (slice_get_within labels x old is))))
    (λ (n : y ≡ x → ⊥).
    ap (λ z. (has_label labels l y && not (eqb old.number l && z)) || (eqb a.number l && z)) (ne_eqb x y (λ q. n (sym q)))
    ∙ stayed (has_label labels l y) (eqb old.number l) (eqb a.number l)
    ∙ sym (ap (λ z. is_label z l) (get_set_other labels x y a n)))
    (cases_eq y x)

pub room_set : (labels : List Label) (i : ℕ) (a : Label) (m m' : ℕ) → i < length labels → ((x : ℕ) (b : Label) → slice_get labels x ≡ Some b → b.number < m)
    → m ≤ m' → a.number < m' →
    (x : ℕ) (b : Label) → slice_get (slice_set labels i a) x ≡ Some b → b.number < m'
room_set labels i a m m' h f le new x b e = ⊎_elim
    (λ (q : x ≡ i).
    let is : a ≡ b = same_Some a b (sym (get_set_same labels i a h) ∙ ap (slice_get (slice_set labels i a)) (sym q) ∙ e) in
    subst (λ (z : Label). z.number < m') is new)
    (λ (n : x ≡ i → ⊥). let k = f x b (sym (get_set_other labels i x a n) ∙ e) in omega (arith, k, le))
    (cases_eq x i)

-- the value of a left side, label by label
module _ (lat : Lattice) (labels : List Label) (base : ℕ) (has : ℕ → Bool) where
  abbrev pub AreMet : ℕ → ℕ → Type 0
  AreMet n v = (x : ℕ) (a : Label) → slice_get labels x ≡ Some a → a.number < n → has x ≡ true → Flows lat a.number v

  abbrev pub AreAllMet : ℕ → Type 0
  AreAllMet v = (x : ℕ) (a : Label) → slice_get labels x ≡ Some a → has x ≡ true → Flows lat a.number v

  abbrev pub IsLeastUp : ℕ → Type 0
  IsLeastUp v = (u : ℕ) → Flows lat base u → AreAllMet u → Flows lat v u

module _ (lat : Lattice) (ll : IsLattice lat) (labels : List Label) (base : ℕ) (has : ℕ → Bool) where
  abbrev Met : ℕ → ℕ → Type 0
  Met = AreMet lat labels base has

  abbrev Least : ℕ → Type 0
  Least = IsLeastUp lat labels base has

  label_of_some : (x l : ℕ) → is_label (slice_get labels x) l ≡ true → (a : Label) × (slice_get labels x ≡ Some a) × (a.number ≡ l)
  label_of_some x l h = go (slice_get labels x) refl h
    where
      go : (o : Option Label) → slice_get labels x ≡ o → is_label o l ≡ true → (a : Label) × (slice_get labels x ≡ Some a) × (a.number ≡ l)
      go None e k = absurd (both_ways false refl k)
      go (Some a) e k = (a, e, eqb-true a.number l k)

  pub met_more : (rows : List Row) (l v w : ℕ) (r : Row) → Tell rows (has_label labels) → slice_get rows l ≡ Some r → Met l v → Flows lat v w
      → (Meet has (has_in r.words.items) → Flows lat l w) → Met (l + 1) w
  met_more rows l v w r t g m up f x a e h i = ⊎_elim
      (λ (k : a.number < l). ll.chain a.number v w (m x a e k i) up)
      (λ (k : l ≤ a.number).
      let q : a.number ≡ l = omega (arith, k, h) in
      let held : has_in r.words.items x ≡ true = t l r g x ∙ ap (λ z. is_label z l) e ∙ eq-eqb a.number l q in
      subst (λ z. Flows lat z w) (sym q) (f (x, i, held)))
      (cases_lt a.number l)

  pub least_more : (rows : List Row) (l v w : ℕ) (r : Row) → Tell rows (has_label labels) → slice_get rows l ≡ Some r → Least v →
      ((u : ℕ) → Flows lat v u → (Meet has (has_in r.words.items) → Flows lat l u) → Flows lat w u) → Least w
  least_more rows l v w r t g least f u b m =
      f u (least u b m) (λ k.
      let s = label_of_some k.0 l (sym (t l r g k.0) ∙ k.2) in
      subst (λ z. Flows lat z u) s.2 (m k.0 s.0 s.1 k.1))

  pub value_is : (bottom v n : ℕ) → ((x : ℕ) (a : Label) → slice_get labels x ≡ Some a → a.number < n) → Flows lat base v → Met n v → Least v
      → v ≡ value_from lat (label_at bottom labels) base has (length labels)
  value_is bottom v n small up m least =
      let low : Label = record { number = bottom } in
      let g : ℕ → ℕ = label_at bottom labels in
      let w = value_from lat g base has (length labels) in
      ll.anti v w
      (least w (base_up lat ll g base has (length labels))
      (λ x a e h.
      let is : g x ≡ a.number = ap (λ (z : Label). z.number) (get_or_from_slice_get labels x a low e) in
      subst (λ z. Flows lat z w) is (has_up lat ll g base has (length labels) x (slice_get_within labels x a e) h)))
      (value_least lat ll g base has (length labels) v up
      (λ x i h. let e = slice_get-get_or labels x low i in m x (get_or labels x low) e (small x (get_or labels x low) e) h))
