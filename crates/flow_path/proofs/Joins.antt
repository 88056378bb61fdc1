-- Joins of the labels of origins, and which of them can be left out.
use Rattle.std.proofs.Common.{◌≡◌, ℕ, zero, suc, ◌+◌, ◌<◌, refl, sym, ap, ◌∙◌, subst, List, [], ◌∷◌, ◌++◌, length, get_or, drop, arith, inl, inr, append-nil}
use Rattle.std.specs.Prelude.{Bool, true, false, cond, All, Contains, ◌⊎◌}
use Rattle.std.specs.List.{insert}
use Rattle.std.proofs.lemmas.List.{drop_more}
use Rattle.label_lattice.specs.Lattice.{Lattice, Flows, IsLattice}
use Rattle.flow_path.specs.declared.origins.Origin.{Origin}
use Rattle.flow_path.specs.Search.{Every}
use Rattle.flow_path.specs.Origins.{joined, AreNeeded, needed_after}
use Rattle.flow_path.specs.Collecting.{IsSifted}
use Rattle.flow_path.proofs.Lists.{append_one}

-- lists by their items
pub every_parts : {A : Type 0} (P : A → Type 0) (xs ys : List A) → Every P (xs ++ ys) → Every P xs × Every P ys
every_parts P [] ys h = (tt, h)
every_parts P (x ∷ xs) ys h = let q = every_parts P xs ys h.1 in ((h.0, q.0), q.1)

pub every_join : {A : Type 0} (P : A → Type 0) (xs ys : List A) → Every P xs → Every P ys → Every P (xs ++ ys)
every_join P [] ys h k = k
every_join P (x ∷ xs) ys h k = (h.0, every_join P xs ys h.1 k)

pub every_map : {A : Type 0} (P Q : A → Type 0) → ((x : A) → P x → Q x) → (xs : List A) → Every P xs → Every Q xs
every_map P Q f [] h = tt
every_map P Q f (x ∷ xs) h = (f x h.0, every_map P Q f xs h.1)

pub every_in : {A : Type 0} (P : A → Type 0) (xs : List A) (x : A) → Every P xs → Contains xs x → P x
every_in P [] x h c = let q = c.1 in absurd (omega (arith, q))
every_in P (y ∷ xs) x h (zero, l, e) = subst (λ z. P z) e h.0
every_in P (y ∷ xs) x h (suc k, l, e) = every_in P xs x h.1 (k, omega (arith, l), e)

pub in_cons : {A : Type 0} (a : A) (xs : List A) (b : A) → Contains (a ∷ xs) b → (a ≡ b) ⊎ Contains xs b
in_cons a xs b (zero, l, e) = inl e
in_cons a xs b (suc k, l, e) = inr (k, omega (arith, l), e)

pub in_more : {A : Type 0} (a : A) (xs : List A) (b : A) → Contains xs b → Contains (a ∷ xs) b
in_more a xs b (k, l, e) = (suc k, omega (arith, l), e)

pub every_self : {A : Type 0} (xs : List A) → Every (Contains xs) xs
every_self [] = tt
every_self (x ∷ xs) = ((0, omega arith, refl), every_map (Contains xs) (Contains (x ∷ xs)) (λ y c. in_more x xs y c) xs (every_self xs))

pub every_all : {A : Type 0} (P : A → Type 0) (xs : List A) → Every P xs → All P xs
every_all P [] h k d l = absurd (omega (arith, l))
every_all P (x ∷ xs) h zero d l = h.0
every_all P (x ∷ xs) h (suc k) d l = every_all P xs h.1 k d (omega (arith, l))

pub all_every : {A : Type 0} (P : A → Type 0) (xs : List A) → All P xs → Every P xs
all_every P [] h = tt
all_every P (x ∷ xs) h = (h 0 x (omega arith), all_every P xs (λ k d l. h (suc k) d (omega (arith, l))))

no_length : {A : Type 0} (xs : List A) → xs ≡ [] → length xs ≡ 0
no_length xs e = ap length e

some_length : {A : Type 0} (before after : List A) (x : A) → length (before ++ (x ∷ after)) ≡ 0 → ⊥
some_length [] after x l = omega (arith, l)
some_length (y ∷ ys) after x l = omega (arith, l)

pub nothing_is : {A : Type 0} (before after : List A) (x : A) → [] ≡ before ++ (x ∷ after) → ⊥
nothing_is before after x e = some_length before after x (no_length (before ++ (x ∷ after)) (sym e))

head_or : {A : Type 0} → A → List A → A
head_or d [] = d
head_or d (x ∷ xs) = x

tail_of : {A : Type 0} → List A → List A
tail_of [] = []
tail_of (x ∷ xs) = xs

same_head : {A : Type 0} (x y : A) (xs ys : List A) → x ∷ xs ≡ y ∷ ys → x ≡ y
unfolding head_or
same_head x y xs ys e = ap (λ z. head_or x z) e

same_tail : {A : Type 0} (x y : A) (xs ys : List A) → x ∷ xs ≡ y ∷ ys → xs ≡ ys
unfolding tail_of
same_tail x y xs ys e = ap (λ z. tail_of z) e

-- one label more
pub join_more : (lat : Lattice) (ws : List Origin) (i : ℕ) (w : Origin) (a b : ℕ) → i < length ws → a ≡ joined lat (drop (i + 1) ws)
    → b ≡ lat.join (get_or ws i w).label.number a → b ≡ joined lat (drop i ws)
join_more lat ws i w a b h e f = f ∙ ap (λ z. lat.join (get_or ws i w).label.number z) e ∙ sym (ap (λ z. joined lat z) (drop_more ws i w h))

false_is : (b : Bool) → (b ≡ true → ⊥) → b ≡ false
false_is true h = absurd (h refl)
false_is false h = refl

module _ (lat : Lattice) (ll : IsLattice lat) where
  abbrev Low : ℕ → Origin → Type 0
  Low c w = Flows lat w.label.number c

  pub joined_least : (ws : List Origin) (c : ℕ) → Every (λ (w : Origin). Flows lat w.label.number c) ws → Flows lat (joined lat ws) c
  joined_least [] c h = ll.lowest c
  joined_least (w ∷ ws) c h = ll.least w.label.number (joined lat ws) c h.0 (joined_least ws c h.1)

  pub joined_parts : (ws : List Origin) (c : ℕ) → Flows lat (joined lat ws) c → Every (λ (w : Origin). Flows lat w.label.number c) ws
  joined_parts [] c h = tt
  joined_parts (w ∷ ws) c h =
      let a = w.label.number in
      let b = joined lat ws in
      (ll.chain a (lat.join a b) c (ll.left a b) h, joined_parts ws c (ll.chain b (lat.join a b) c (ll.right a b) h))

  pub joined_left : (xs ys : List Origin) → Flows lat (joined lat xs) (joined lat (xs ++ ys))
  joined_left xs ys = let c = joined lat (xs ++ ys) in joined_least xs c (every_parts (Low c) xs ys (joined_parts (xs ++ ys) c (ll.same c))).0

  pub joined_last : (xs : List Origin) (w : Origin) → Flows lat w.label.number (joined lat (xs ++ (w ∷ [])))
  joined_last xs w = let c = joined lat (xs ++ (w ∷ [])) in (every_parts (Low c) xs (w ∷ []) (joined_parts (xs ++ (w ∷ [])) c (ll.same c))).1.0

  pub joined_more : (xs : List Origin) (w : Origin) (c : ℕ) → Flows lat (joined lat xs) c → Flows lat w.label.number c
      → Flows lat (joined lat (xs ++ (w ∷ []))) c
  joined_more xs w c h k = joined_least (xs ++ (w ∷ [])) c (every_join (Low c) xs (w ∷ []) (joined_parts xs c h) (k, tt))

  pub sift_begins : (all : List Origin) → IsSifted lat all all []
  sift_begins all =
      let a = joined lat all in
      record {
        needed = λ before after w e f. nothing_is before after w e;
        join = ll.anti (lat.join a lat.bottom) a (ll.least a lat.bottom a (ll.same a) (ll.lowest a)) (ll.left a lat.bottom);
        lefts = every_self all;
        kepts = tt;
        rest = [];
        is = sym (append-nil all);
        same = refl;
      }

  pub sift_ends : (all kept : List Origin) → IsSifted lat all [] kept → AreNeeded lat kept × (joined lat kept ≡ joined lat all) × All (Contains all) kept
      × (kept ≡ needed_after lat lat.bottom all)
  sift_ends all kept S =
      let k = joined lat kept in (
        λ before after w e f. let o = joined lat (before ++ after) in
            S.needed before after w e (ll.chain w.label.number o (lat.join lat.bottom o) f (ll.right lat.bottom o)),
        ll.anti k (lat.join lat.bottom k) (ll.right lat.bottom k) (ll.least lat.bottom k k (ll.lowest k) (ll.same k)) ∙ S.join,
        every_all (Contains all) kept S.kepts,
        S.same ∙ ap (λ z. needed_after lat lat.bottom z) (sym S.is),
      )

  -- the last of those that are left
  module _ (all left less kept : List Origin) (w : Origin) (is : left ≡ less ++ (w ∷ [])) (S : IsSifted lat all left kept) where
    abbrev l : ℕ
    l = joined lat left

    abbrev m : ℕ
    m = joined lat less

    abbrev k : ℕ
    k = joined lat kept

    abbrev a : ℕ
    a = w.label.number

    less_low : Flows lat m l
    less_low = subst (λ z. Flows lat m (joined lat z)) (sym is) (joined_left less (w ∷ []))

    last_low : Flows lat a l
    last_low = subst (λ z. Flows lat a (joined lat z)) (sym is) (joined_last less w)

    left_low : (c : ℕ) → Flows lat m c → Flows lat a c → Flows lat l c
    left_low c f g = subst (λ z. Flows lat (joined lat z) c) (sym is) (joined_more less w c f g)

    lefts : Every (Contains all) less
    lefts = (every_parts (Contains all) less (w ∷ []) (subst (λ z. Every (Contains all) z) is S.lefts)).0

    last : Contains all w
    last = (every_parts (Contains all) less (w ∷ []) (subst (λ z. Every (Contains all) z) is S.lefts)).1.0

    rest_is : all ≡ less ++ (w ∷ S.rest)
    rest_is = S.is ∙ ap (λ z. z ++ S.rest) is ∙ append_one less w S.rest

    left_is : joined lat left ≡ lat.join (joined lat less) w.label.number
    left_is = ll.anti l (lat.join m a) (left_low (lat.join m a) (ll.left m a) (ll.right m a)) (ll.least m a l less_low last_low)

    -- whether it can be left out
    step : (b : Bool) → lat.flows w.label.number (lat.join (joined lat less) (joined lat kept)) ≡ b
        → cond b kept (w ∷ kept) ≡ needed_after lat (joined lat less) (w ∷ S.rest)
    step b f =
        ap (λ z. cond z kept (w ∷ kept)) (sym f)
        ∙ ap (λ z. cond (lat.flows w.label.number (lat.join (joined lat less) (joined lat z))) z (w ∷ z))
        (S.same ∙ ap (λ z. needed_after lat z S.rest) left_is)

    -- it can be left out
    pub sift_drops : Flows lat w.label.number (lat.join (joined lat less) (joined lat kept)) → IsSifted lat all less kept
    sift_drops f =
        record {
          needed = λ before after v e g.
              let o = joined lat (before ++ after) in
              S.needed before after v e (ll.chain v.label.number (lat.join m o) (lat.join l o) g
              (ll.least m o (lat.join l o) (ll.chain m l (lat.join l o) less_low (ll.left l o)) (ll.right l o)));
          join =
              ll.anti (lat.join m k) (lat.join l k)
              (ll.least m k (lat.join l k) (ll.chain m l (lat.join l k) less_low (ll.left l k)) (ll.right l k))
              (ll.least l k (lat.join m k) (left_low (lat.join m k) (ll.left m k) f) (ll.right m k))
              ∙ S.join;
          lefts = lefts;
          kepts = S.kepts;
          rest = w ∷ S.rest;
          is = rest_is;
          same = step true f;
        }

    -- it is kept
    pub sift_keeps : (Flows lat w.label.number (lat.join (joined lat less) (joined lat kept)) → ⊥) → IsSifted lat all less (w ∷ kept)
    sift_keeps high =
        record {
          needed = go;
          join =
              ll.anti (lat.join m (lat.join a k)) (lat.join l k)
              (ll.least m (lat.join a k) (lat.join l k) (ll.chain m l (lat.join l k) less_low (ll.left l k))
              (ll.least a k (lat.join l k) (ll.chain a l (lat.join l k) last_low (ll.left l k)) (ll.right l k)))
              (ll.least l k (lat.join m (lat.join a k))
              (left_low (lat.join m (lat.join a k)) (ll.left m (lat.join a k))
              (ll.chain a (lat.join a k) (lat.join m (lat.join a k)) (ll.left a k) (ll.right m (lat.join a k))))
              (ll.chain k (lat.join a k) (lat.join m (lat.join a k)) (ll.right a k) (ll.right m (lat.join a k))))
              ∙ S.join;
          lefts = lefts;
          kepts = (last, S.kepts);
          rest = w ∷ S.rest;
          is = rest_is;
          same = step false (false_is (lat.flows w.label.number (lat.join (joined lat less) (joined lat kept))) high);
        }
      where
        go : (before after : List Origin) (v : Origin) → w ∷ kept ≡ before ++ (v ∷ after)
            → Flows lat v.label.number (lat.join (joined lat less) (joined lat (before ++ after))) → ⊥
        go [] after v e g =
            let h : w ≡ v = same_head w v kept after e in
            let t : kept ≡ after = same_tail w v kept after e in
            high (subst (λ (z : Origin). Flows lat z.label.number (lat.join m k)) (sym h)
            (subst (λ z. Flows lat v.label.number (lat.join m (joined lat z))) (sym t) g))
        go (b ∷ before) after v e g =
            let h : w ≡ b = same_head w b kept (before ++ (v ∷ after)) e in
            let t : kept ≡ before ++ (v ∷ after) = same_tail w b kept (before ++ (v ∷ after)) e in
            let o = joined lat (before ++ after) in
            let n = b.label.number in
            let up : Flows lat n l = subst (λ (z : Origin). Flows lat z.label.number l) h last_low in
            S.needed before after v t
            (ll.chain v.label.number (lat.join m (lat.join n o)) (lat.join l o) g
            (ll.least m (lat.join n o) (lat.join l o) (ll.chain m l (lat.join l o) less_low (ll.left l o))
            (ll.least n o (lat.join l o) (ll.chain n l (lat.join l o) up (ll.left l o)) (ll.right l o))))

pub insert_first : {A : Type 0} (xs : List A) (x : A) → insert xs 0 x ≡ x ∷ xs
insert_first [] x = refl
insert_first (y ∷ ys) x = refl

pub empty_is : {A : Type 0} (xs : List A) → length xs ≡ 0 → xs ≡ []
empty_is [] e = refl
empty_is (x ∷ xs) e = absurd (omega (arith, e))
