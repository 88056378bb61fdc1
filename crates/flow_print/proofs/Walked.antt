-- Walks over tokens and steps.
use Rattle.std.proofs.Common.{◌≡◌, ℕ, zero, suc, ◌+◌, ◌-◌, ◌<◌, refl, sym, ap, subst, ◌∙◌, List, [], ◌∷◌, ◌++◌, length, get_or, drop, arith}
use Rattle.std.specs.Prelude.{Bool, true, false, ◌&&◌, if◌then◌else◌, Some}
use Rattle.std.specs.List.{AllAdjacentBelow, AllWithin}
use Rattle.std.specs.List.Sorted.{IsPartitionedBy}
use Rattle.std.proofs.lemmas.Bool.Decides.{nat_tests}
use Rattle.std.proofs.lemmas.List.{drop_more}
use Rattle.text_base.specs.declared.pos.Pos.{Pos}
use Rattle.mit_syntax.specs.declared.token.Token.{Token}
use Rattle.mit_syntax.specs.Program.{Syntax}
use Rattle.flow_path.specs.declared.step.Step.{Step}
use Rattle.flow_print.specs.Places.{is_after, is_same, is_name, next_place, is_var, declared_from, kind_at, spelled, spelled_at}
use Rattle.flow_print.specs.Lines.{step_lines, steps_lines}

pub assoc : {A : Type 0} (xs ys zs : List A) → (xs ++ ys) ++ zs ≡ xs ++ (ys ++ zs)
assoc [] ys zs = refl
assoc (x ∷ xs) ys zs = ap (λ z. x ∷ z) (assoc xs ys zs)

-- three pieces, put one after another
pub put_three : (old a b c one two all : List ℕ) → one ≡ old ++ a → two ≡ one ++ b → all ≡ two ++ c → all ≡ old ++ (a ++ (b ++ c))
put_three old a b c one two all e f g =
    g
    ∙ ap (λ z. z ++ c) (f ∙ ap (λ z. z ++ b) e)
    ∙ assoc (old ++ a) b c
    ∙ assoc old a (b ++ c)

-- a token that is passed by: r says whether it is the one
module _ (T : List ℕ) (ts : List Token) (w : List ℕ) (i : ℕ) (t : Token) (h : i < length ts) (r : Bool) (no : r ≡ false) where
  pub next_on : (q : Pos) → r ≡ (is_after (get_or ts i t).pos q && is_name T (get_or ts i t) w)
      → next_place T (drop i ts) q w ≡ next_place T (drop (i + 1) ts) q w
  next_on q e = ap (λ z. next_place T z q w) (drop_more ts i t h) ∙ ap (λ (b : Bool). if b then (get_or ts i t).pos else
      next_place T (drop (i + 1) ts) q w) (sym e ∙ no)

  pub declared_on : (a b : Bool) → r ≡ (a && is_name T (get_or ts i t) w) → b ≡ is_var (get_or ts i t).kind
      → declared_from T a (drop i ts) w ≡ declared_from T b (drop (i + 1) ts) w
  declared_on a b e v =
      ap (λ z. declared_from T a z w) (drop_more ts i t h)
      ∙ ap (λ (b : Bool). if b then Some (get_or ts i t).pos else declared_from T (is_var (get_or ts i t).kind) (drop (i + 1) ts) w) (sym e ∙ no)
      ∙ ap (λ z. declared_from T z (drop (i + 1) ts) w) (sym v)

  pub kind_on : (q : Pos) → r ≡ is_same (get_or ts i t).pos q → kind_at (drop i ts) q ≡ kind_at (drop (i + 1) ts) q
  kind_on q e = ap (λ z. kind_at z q) (drop_more ts i t h) ∙ ap (λ (b : Bool). if b then (get_or ts i t).kind else kind_at (drop (i + 1) ts) q) (sym e ∙ no)

  pub spelled_on : (q : Pos) → r ≡ is_same (get_or ts i t).pos q → spelled_at T (drop i ts) q ≡ spelled_at T (drop (i + 1) ts) q
  spelled_on q e =
      ap (λ z. spelled_at T z q) (drop_more ts i t h)
      ∙ ap (λ (b : Bool). if b then spelled T (get_or ts i t) else spelled_at T (drop (i + 1) ts) q) (sym e ∙ no)

-- the order of positions
after_more : (p q r : Pos) → is_after p q ≡ true → is_after q r ≡ true → is_after p r ≡ true
after_more p q r h k = grind (arith, nat_tests)

not_after : (p q : Pos) → is_after q p ≡ true → is_after p q ≡ false
not_after p q h = grind (arith, nat_tests)

not_same : (p q : Pos) → is_after q p ≡ true → is_same p q ≡ false
not_same p q h = grind (arith, nat_tests)

-- tokens that are passed over: each of the first n stands before q
module _ (q : Pos) where
  pub next_past : (T w : List ℕ) (n : ℕ) (ts : List Token) → AllWithin (λ (t : Token). is_after q t.pos ≡ true) ts 0 n
      → next_place T (drop n ts) q w ≡ next_place T ts q w
  next_past T w zero ts h = refl
  next_past T w (suc n) [] h = refl
  next_past T w (suc n) (t ∷ ts) h =
      next_past T w n ts (λ k d a b. h (suc k) d (omega arith) (omega arith))
      ∙ sym (ap (λ (b : Bool). if b && is_name T t w then t.pos else next_place T ts q w) (not_after t.pos q (h 0 t (omega arith) (omega arith))))

  pub kind_past : (n : ℕ) (ts : List Token) → AllWithin (λ (t : Token). is_after q t.pos ≡ true) ts 0 n → kind_at (drop n ts) q ≡ kind_at ts q
  kind_past zero ts h = refl
  kind_past (suc n) [] h = refl
  kind_past (suc n) (t ∷ ts) h =
      kind_past n ts (λ k d a b. h (suc k) d (omega arith) (omega arith))
      ∙ sym (ap (λ (b : Bool). if b then t.kind else kind_at ts q) (not_same t.pos q (h 0 t (omega arith) (omega arith))))

  pub spelled_past : (T : List ℕ) (n : ℕ) (ts : List Token) → AllWithin (λ (t : Token). is_after q t.pos ≡ true) ts 0 n
      → spelled_at T (drop n ts) q ≡ spelled_at T ts q
  spelled_past T zero ts h = refl
  spelled_past T (suc n) [] h = refl
  spelled_past T (suc n) (t ∷ ts) h =
      spelled_past T n ts (λ k d a b. h (suc k) d (omega arith) (omega arith))
      ∙ sym (ap (λ (b : Bool). if b then spelled T t else spelled_at T ts q) (not_same t.pos q (h 0 t (omega arith) (omega arith))))

  -- where positions rise, each token before one that stands before q does so too
  module _ (ts : List Token) (up : AllAdjacentBelow (λ (a b : Token). is_after b.pos a.pos ≡ true) ts (length ts)) where
    before_far : (k i j : ℕ) (d : Token) → j ≡ i + k → j < length ts → is_after q (get_or ts j d).pos ≡ true → is_after q (get_or ts i d).pos ≡ true
    before_far zero i j d e lt h = let at : j ≡ i = omega arith in subst (λ z. is_after q (get_or ts z d).pos ≡ true) at h
    before_far (suc k) i j d e lt h =
        let at : j ≡ (i + k) + 1 = omega arith in
        let near = subst (λ z. is_after q (get_or ts z d).pos ≡ true) at h in
        before_far k i (i + k) d refl (omega arith)
        (after_more q (get_or ts ((i + k) + 1) d).pos (get_or ts (i + k) d).pos near (up (i + k) d (omega arith)))

    pub parted : IsPartitionedBy (λ (t : Token). is_after q t.pos) ts
    parted i j d le lt h = before_far (j - i) i j d (omega arith) lt h

-- the lines of one step more
pub steps_on : (T : List ℕ) (ts : List Token) (s : Syntax) (a : List ℕ) (xs : List Step) (i : ℕ) (x : Step) (old new whole : List ℕ) → i < length xs →
    new ≡ old ++ step_lines T ts s (get_or xs i x) a → old ++ steps_lines T ts s (drop i xs) a ≡ whole → new ++ steps_lines T ts s (drop (i + 1) xs) a ≡ whole
steps_on T ts s a xs i x old new whole h e so =
    ap (λ z. z ++ steps_lines T ts s (drop (i + 1) xs) a) e
    ∙ assoc old (step_lines T ts s (get_or xs i x) a) (steps_lines T ts s (drop (i + 1) xs) a)
    ∙ sym (ap (λ z. old ++ steps_lines T ts s z a) (drop_more xs i x h))
    ∙ so
