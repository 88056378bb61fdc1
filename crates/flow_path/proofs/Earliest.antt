-- The chain that is told is one.
use Rattle.std.proofs.Common.{◌≡◌, ℕ, zero, suc, ◌<◌, ◌≤◌, refl, sym, ap, ◌∙◌, subst, List, [], ◌∷◌, ◌++◌, length, arith, ⊎_elim}
use Rattle.std.specs.Prelude.{Contains, slice_get}
use Rattle.std.proofs.lemmas.Bool.{cases_lt}
use Rattle.std.proofs.lemmas.Option.{same_Some}
use Rattle.mit_syntax.specs.Program.{Syntax}
use Rattle.timing_types.specs.declared.rule.TypeFault.{TypeFault}
use Rattle.timing_types.specs.Labelled.{LabelledProgram}
use Rattle.flow_path.specs.declared.step.Step.{Step}
use Rattle.flow_path.specs.Steps.{steps_of}
use Rattle.flow_path.specs.Chains.{IsReason, CostsNoMore}
use Rattle.flow_path.specs.Costs.{cost_of}
use Rattle.flow_path.specs.Told.{StandsFirst, IsTold}
use Rattle.flow_path.proofs.Costing.{le_both}
use Rattle.flow_path.proofs.Lists.{append_one}

-- two lists that are one, by where their middles stand
front : (a c b d : List Step) (x y : Step) → a ++ (x ∷ b) ≡ c ++ (y ∷ d) → length a < length c → Contains c x
front [] [] b d x y e l = absurd (omega (arith, l))
front [] (z ∷ c) b d x y e l = (0, omega arith, sym (same_Some x z (ap (λ w. slice_get w 0) e)))
front (w ∷ a) [] b d x y e l = absurd (omega (arith, l))
front (w ∷ a) (z ∷ c) b d x y e l =
    let r = front a c b d x y (ap rest e) (omega (arith, l)) in
    let q = r.1 in
    (suc r.0, omega (arith, q), r.2)
  where
    rest : List Step → List Step
    rest [] = []
    rest (u ∷ us) = us

middle : (a c b d : List Step) (x y : Step) → a ++ (x ∷ b) ≡ c ++ (y ∷ d) → length a ≡ length c → x ≡ y
middle [] [] b d x y e l = same_Some x y (ap (λ w. slice_get w 0) e)
middle [] (z ∷ c) b d x y e l = absurd (omega (arith, l))
middle (w ∷ a) [] b d x y e l = absurd (omega (arith, l))
middle (w ∷ a) (z ∷ c) b d x y e l = middle a c b d x y (ap rest e) (omega (arith, l))
  where
    rest : List Step → List Step
    rest [] = []
    rest (u ∷ us) = us

both_first : (xs : List Step) (x y : Step) → StandsFirst xs x y → StandsFirst xs y x → x ≡ y
both_first xs x y h k = ⊎_elim
    (λ (l : length h.before < length k.before). absurd (k.none (front h.before k.before h.after k.after x y (sym h.is ∙ k.is) l)))
    (λ (l : length k.before ≤ length h.before). ⊎_elim
    (λ (m : length k.before < length h.before). absurd (h.none (front k.before h.before k.after h.after y x (sym k.is ∙ h.is) m)))
    (λ (m : length h.before ≤ length k.before). middle h.before k.before h.after k.after x y (sym h.is ∙ k.is) (omega (arith, l, m)))
    (cases_lt (length k.before) (length h.before)))
    (cases_lt (length h.before) (length k.before))

record Last (xs : List Step) (n : ℕ) : Type 0 where
  pub before : List Step
  pub step : Step
  pub is : xs ≡ before ++ step ∷ []
  pub count : length before ≡ n

last_of : (n : ℕ) (xs : List Step) → length xs ≡ suc n → Last xs n
last_of n [] e = absurd (omega (arith, e))
last_of zero (x ∷ []) e = record { before = []; step = x; is = refl; count = refl }
last_of (suc n) (x ∷ []) e = absurd (omega (arith, e))
last_of zero (x ∷ (y ∷ ys)) e = absurd (omega (arith, e))
last_of (suc n) (x ∷ (y ∷ ys)) e =
    let r = last_of n (y ∷ ys) (omega (arith, e)) in
    record { before = x ∷ r.before; step = r.step; is = ap (λ z. x ∷ z) r.is; count = ap suc r.count }

module _ (s : Syntax) (R : List Step → Type 0) where
  -- of the chains of a kind none is cheaper, and of those that are as cheap it is the earliest
  pub record Chosen (chain : List Step) : Type 0 where
    pub kind : R chain
    pub cheapest : (other : List Step) → R other → CostsNoMore chain other
    pub earliest : (before other after : List Step) (x y : Step) → chain ≡ before ++ (x ∷ after) → R (other ++ (y ∷ after))
        → CostsNoMore (other ++ (y ∷ after)) chain → StandsFirst (steps_of s) x y

  module _ (xs ys : List Step) (a : Chosen xs) (b : Chosen ys) where
    same : (n : ℕ) (before other after : List Step) → xs ≡ before ++ after → ys ≡ other ++ after → length before ≡ n → length other ≡ n → xs ≡ ys
    same zero [] [] after e f l m = e ∙ sym f
    same zero (x ∷ before) other after e f l m = absurd (omega (arith, l))
    same zero [] (y ∷ other) after e f l m = absurd (omega (arith, m))
    same (suc n) before other after e f l m =
        let p = last_of n before l in
        let q = last_of n other m in
        let px : xs ≡ p.before ++ (p.step ∷ after) = e ∙ ap (λ z. z ++ after) p.is ∙ append_one p.before p.step after in
        let qy : ys ≡ q.before ++ (q.step ∷ after) = f ∙ ap (λ z. z ++ after) q.is ∙ append_one q.before q.step after in
        let one = a.earliest p.before q.before after p.step q.step px (subst (λ z. R z) qy b.kind)
        (subst (λ z. CostsNoMore z xs) qy (b.cheapest xs a.kind)) in
        let two = b.earliest q.before p.before after q.step p.step qy (subst (λ z. R z) px a.kind)
        (subst (λ z. CostsNoMore z ys) px (a.cheapest ys b.kind)) in
        let here : p.step ≡ q.step = both_first (steps_of s) p.step q.step one two in
        same n p.before q.before (p.step ∷ after) px (subst (λ z. ys ≡ q.before ++ (z ∷ after)) (sym here) qy) p.count q.count

    -- two that are chosen are the same
    pub chosen_one : xs ≡ ys
    chosen_one = same (length xs) xs ys [] (end xs) (end ys) refl (sym (le_both (cost_of xs) (cost_of ys) (a.cheapest ys b.kind) (b.cheapest xs a.kind)).1)
      where
        end : (zs : List Step) → zs ≡ zs ++ []
        end [] = refl
        end (z ∷ zs) = ap (λ w. z ∷ w) (end zs)

-- two chains that are told of a refusal are the same
pub told_one : (p : LabelledProgram) (fault : TypeFault) (xs ys : List Step) → IsTold p fault xs → IsTold p fault ys → xs ≡ ys
told_one p fault xs ys a b = chosen_one p.program (IsReason p fault) xs ys (chosen xs a) (chosen ys b)
  where
    chosen : (zs : List Step) → IsTold p fault zs → Chosen p.program (IsReason p fault) zs
    chosen zs h = record { kind = h.reason; cheapest = h.cheapest; earliest = h.earliest }
