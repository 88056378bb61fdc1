use Rattle.std.proofs.Common.{ℕ, ◌<◌}
use Rattle.label_lattice.specs.Chains.{IsLowest}
use Rattle.label_lattice.specs.Tables.{IsSet}
use Rattle.label_lattice.proofs.bounds.lowest.Given as goal

abbrev pub invariant-loop-a : goal.invariant-loop-a
invariant-loop-a l = (k : ℕ) → k < l.a → IsLowest l.size (IsSet l.flows) k → ⊥
