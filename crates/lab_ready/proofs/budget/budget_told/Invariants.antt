use Rattle.std.specs.Prelude.{ℕ, List, map}
use Rattle.run_limits.specs.Cycles.{IsCycles}
use Rattle.start_file.specs.Starts.{seen}
use Rattle.lab_ready.specs.Budget.{BudgetTold}
use Rattle.lab_ready.proofs.budget.budget_told.Given as goal

-- what is told from here on is told from the beginning on
abbrev pub invariant-loop-left : goal.invariant-loop-left
invariant-loop-left g l =
    IsCycles l.budget
    × ((x : List ℕ) → BudgetTold l.setting.env l.p.compiled.typed.labelled l.p.observer.number (map seen l.p.starts.items) l.left l.budget x
    → BudgetTold l.setting.env l.p.compiled.typed.labelled l.p.observer.number (map seen l.p.starts.items) 4 l.setting.budget x)

abbrev pub decreases-loop-left : goal.decreases-loop-left
decreases-loop-left g l = l.left
