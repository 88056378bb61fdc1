-- Runs from a start, and what a log tells without its cycles.
use Rattle.std.specs.Prelude.{◌≡◌, ℕ, ◌≤◌, List, ℤ}
use Rattle.env_contract.specs.Env.{Env}
use Rattle.label_code.specs.Machine.{Machine, steps, run_to, start}
use Rattle.label_code.specs.declared.code.Instr.{Instr}

pub record Start (E : Type 0) : Type 0 where
  pub memory : List ℤ
  pub env : E

-- the run to T from a start
abbrev pub run_from : {E : Type 0} → Env E → List Instr → ℕ → Start E → Machine E
run_from v image t s = run_to v image t (start s.memory s.env)

-- A run from x to T comes to y: after some number of steps, by T, and from wherever it stands by T the run
-- goes on to y. So the number of steps is the greatest.
pub record RunsTo {E : Type 0} (v : Env E) (image : List Instr) (t : ℕ) (x y : Machine E) : Type 0 where
  pub count : ℕ
  pub is : steps v image count x ≡ y
  pub by : y.core.clock ≤ t
  pub greatest : (k : ℕ) → (steps v image k x).core.clock ≤ t → (j : ℕ) × (steps v image j (steps v image k x) ≡ y)
