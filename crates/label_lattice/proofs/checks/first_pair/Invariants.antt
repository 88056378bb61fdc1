use Rattle.std.proofs.Common.{ℕ, ◌<◌}
use Rattle.label_lattice.specs.Tables.{IsSet, IsRefused}
use Rattle.label_lattice.proofs.checks.first_pair.Given as goal

abbrev pub invariant-loop-a : goal.invariant-loop-a
invariant-loop-a l = (k m : ℕ) → k < l.a → k < m → m < l.size → IsRefused l.check l.size (IsSet l.flows) k m → ⊥
