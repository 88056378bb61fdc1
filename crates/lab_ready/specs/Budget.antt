-- What is told of runs that have not halted by the budget: whether more would do.
use Rattle.std.specs.Prelude.{◌≡◌, ◌⊎◌, ◌<◌, ◌≤◌, ◌*◌, ◌^◌, ℕ, zero, suc, List, codes, decimal, ◌++◌}
use Rattle.timing_types.specs.Labelled.{LabelledProgram}
use Rattle.start_file.specs.Starts.{StartValue}
use Rattle.leak_audit.specs.declared.report.AuditReport.{AuditReport}
use Rattle.leak_audit.specs.declared.report.AuditFault.{AuditFault}
use Rattle.leak_audit.specs.declared.report.AuditFault.TheVariants.{Disagree, Unfinished, TooMuch, Memory}
use Rattle.tool_stages.specs.declared.envs.Environment.{Environment}
use Rattle.tool_stages.specs.Envs.{ReportsIn, AuditFaultsIn}

abbrev pub enough_line : ℕ → List ℕ
enough_line t = codes "a budget of " ++ (decimal t ++ codes " is enough\n")

abbrev pub not_enough_line : ℕ → List ℕ
not_enough_line t = codes "a budget of " ++ (decimal t ++ codes " is not enough\n")

-- An audit with this budget is refused: more of it may do where a run has not halted, and there alone.
abbrev pub MoreTold : ℕ → (List ℕ → Type 0) → AuditFault → List ℕ → Type 0
MoreTold t More (Unfinished run cycle) x = More x
MoreTold t More (TooMuch count) x = x ≡ not_enough_line t
MoreTold t More (Disagree run what) x = x ≡ not_enough_line t
MoreTold t More Memory x = ⊥

-- what an audit with this budget comes to
abbrev pub TriedTold : Environment → LabelledProgram → ℕ → List StartValue → ℕ → (List ℕ → Type 0) → List ℕ → Type 0
TriedTold e q o ss t More x =
    ((r : AuditReport) × ReportsIn e q o t ss r × (x ≡ enough_line t))
    ⊎ ((f : AuditFault) × AuditFaultsIn e q o t ss f × MoreTold t More f x)

-- With a budget some run has not halted. It is doubled, up to so many times and not beyond 2^40, until an audit does not end so.
abbrev pub BudgetTold : Environment → LabelledProgram → ℕ → List StartValue → ℕ → ℕ → List ℕ → Type 0
BudgetTold e q o ss zero t x = x ≡ not_enough_line t
BudgetTold e q o ss (suc n) t x =
    ((2 ^ 40 < t * 2) × (x ≡ not_enough_line t))
    ⊎ ((t * 2 ≤ 2 ^ 40) × TriedTold e q o ss (t * 2) (λ y. BudgetTold e q o ss n (t * 2) y) x)
