-- What is told of more budget, one step after another.
use Rattle.std.proofs.Common.{◌≡◌, ◌<◌, ◌≤◌, ◌⊎◌, ◌*◌, ◌^◌, ◌-◌, ℕ, zero, suc, List, inl, inr, subst, arith}
use Rattle.timing_types.specs.Labelled.{LabelledProgram}
use Rattle.start_file.specs.Starts.{StartValue}
use Rattle.tool_stages.specs.declared.envs.Environment.{Environment}
use Rattle.lab_ready.specs.Budget.{BudgetTold, TriedTold, not_enough_line}

module _ (e : Environment) (q : LabelledProgram) (o : ℕ) (ss : List StartValue) where
  -- the next budget is tried
  pub tried : (n t : ℕ) (x : List ℕ) → 0 < n → t * 2 ≤ 2 ^ 40 → TriedTold e q o ss (t * 2) (λ y. BudgetTold e q o ss (n - 1) (t * 2) y) x
      → BudgetTold e q o ss n t x
  tried zero t x lt le h = absurd (omega (arith, lt))
  tried (suc n) t x lt le h =
      let same : suc n - 1 ≡ n = omega arith in
      inr (le, subst (λ (k : ℕ). TriedTold e q o ss (t * 2) (λ y. BudgetTold e q o ss k (t * 2) y) x) same h)

  -- no other one is
  pub last : (n t : ℕ) (x : List ℕ) → (n ≡ 0) ⊎ (2 ^ 40 < t * 2) → x ≡ not_enough_line t → BudgetTold e q o ss n t x
  last zero t x h is = is
  last (suc n) t x (inl h) is = absurd (omega (arith, h))
  last (suc n) t x (inr h) is = inl (h, is)
