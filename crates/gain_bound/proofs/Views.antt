-- Each member of a list is counted at its view, once.
use Rattle.std.proofs.Common.{◌≡◌, ℕ, List, [], ◌∷◌, map, Bool, true, false, refl, sym, ap, ◌∙◌, inl, inr}
use Rattle.std.specs.Prelude.{cond}
use Rattle.leak_bound.specs.Records.{distinct, Tests, Each}
use Rattle.leak_bound.proofs.Few.{Spread, Spread-distinct}
use Rattle.sharp_bound.specs.Guess.{that_show}
use Rattle.sharp_bound.proofs.Guess.{Has, Covered, covered_views, covered_distinct}

-- for sums and products alike
module _ {X V : Type 0} (see : X → V) (same : V → V → Bool) (tests : Tests same) (op : ℕ → ℕ → ℕ) (unit : ℕ) (left : (n : ℕ) → op unit n ≡ n)
    (right : (n : ℕ) → op n unit ≡ n) (exchange : (a b c d : ℕ) → op (op a b) (op c d) ≡ op (op a c) (op b d)) where
  abbrev pub over : (X → ℕ) → List X → ℕ
  over f [] = unit
  over f (x ∷ xs) = op (f x) (over f xs)

  -- for each of some views over those that show it, and these together
  abbrev pub over_views : (X → ℕ) → List X → List V → ℕ
  over_views f xs [] = unit
  over_views f xs (v ∷ vs) = op (over f (that_show see same v xs)) (over_views f xs vs)

  -- once for each of some views that a member shows
  abbrev times : ℕ → X → List V → ℕ
  times n x [] = unit
  times n x (v ∷ vs) = op (cond (same v (see x)) n unit) (times n x vs)

  member_step : (f : X → ℕ) (x : X) (xs : List X) (vs : List V) → over_views f (x ∷ xs) vs ≡ op (times (f x) x vs) (over_views f xs vs)
  member_step f x xs [] = sym (left unit)
  member_step f x xs (v ∷ vs) = go (same v (see x)) (member_step f x xs vs)
    where
      go : (b : Bool) → over_views f (x ∷ xs) vs ≡ op (times (f x) x vs) (over_views f xs vs)
          → op (over f (cond b (x ∷ that_show see same v xs) (that_show see same v xs))) (over_views f (x ∷ xs) vs)
          ≡ op (op (cond b (f x) unit) (times (f x) x vs)) (op (over f (that_show see same v xs)) (over_views f xs vs))
      go true h = ap (op (op (f x) (over f (that_show see same v xs)))) h ∙ exchange _ _ _ _
      go false h =
          ap (op (over f (that_show see same v xs))) h ∙ ap (λ z. op z (op (times (f x) x vs) (over_views f xs vs))) (sym (left _)) ∙ exchange _ _ _ _

  -- none of these is shown by one that shows another
  never : (n : ℕ) (x : X) (v : V) → same v (see x) ≡ true → (vs : List V) → Each (λ u. same v u ≡ false) vs → times n x vs ≡ unit
  never n x v e [] h = refl
  never n x v e (u ∷ vs) h = go (same u (see x)) refl (never n x v e vs h.1)
    where
      go : (b : Bool) → same u (see x) ≡ b → times n x vs ≡ unit → op (cond b n unit) (times n x vs) ≡ unit
      go true p r =
          let here : v ≡ u = tests.same_to v (see x) e ∙ sym (tests.same_to u (see x) p) in
          let both : true ≡ false = sym (tests.same_from v u here) ∙ h.0 in
          absurd cc
      go false p r = left _ ∙ r

  once : (n : ℕ) (x : X) (vs : List V) → Spread same vs → Has (λ v. same v (see x)) vs → times n x vs ≡ n
  once n x [] s h = absurd h
  once n x (v ∷ vs) s (inl e) = ap (λ b. op (cond b n unit) (times n x vs)) e ∙ ap (op n) (never n x v e vs s.0) ∙ right n
  once n x (v ∷ vs) s (inr h) = go (same v (see x)) refl (once n x vs s.1 h) (λ e. never n x v e vs s.0)
    where
      go : (b : Bool) → same v (see x) ≡ b → times n x vs ≡ n → (same v (see x) ≡ true → times n x vs ≡ unit) → op (cond b n unit) (times n x vs) ≡ n
      go true e r none = ap (op n) (none e) ∙ right n
      go false e r none = left _ ∙ r

  nothing : (f : X → ℕ) (vs : List V) → over_views f [] vs ≡ unit
  nothing f [] = refl
  nothing f (v ∷ vs) = left _ ∙ nothing f vs

  covered_over : (f : X → ℕ) (vs : List V) → Spread same vs → (xs : List X) → Covered see same vs xs → over_views f xs vs ≡ over f xs
  covered_over f vs s [] h = nothing f vs
  covered_over f vs s (x ∷ xs) h =
      member_step f x xs vs ∙ ap (λ z. op z (over_views f xs vs)) (once (f x) x vs s h.0) ∙ ap (op (f x)) (covered_over f vs s xs h.1)

  pub over_all : (f : X → ℕ) (xs : List X) → over_views f xs (distinct same (map see xs)) ≡ over f xs
  over_all f xs =
      let views = map see xs in
      covered_over f (distinct same views) (Spread-distinct same views) xs
      (covered_distinct see same tests views xs (covered_views see same tests xs))
