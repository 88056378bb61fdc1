use Rattle.std.proofs.Common.{ℕ, ◌<◌}
use Rattle.label_lattice.specs.Tables.{IsSet, IsRefused}
use Rattle.label_lattice.proofs.checks.first_above.Given as goal

abbrev pub invariant-loop-b : goal.invariant-loop-b
invariant-loop-b l = (k : ℕ) → l.a < k → k < l.b → IsRefused l.check l.size (IsSet l.flows) l.a k → ⊥
