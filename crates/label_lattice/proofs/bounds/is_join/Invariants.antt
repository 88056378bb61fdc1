use Rattle.std.proofs.Common.{ℕ, ◌<◌}
use Rattle.label_lattice.specs.Tables.{IsSet}
use Rattle.label_lattice.proofs.bounds.is_join.Given as goal

abbrev pub invariant-loop-d : goal.invariant-loop-d
invariant-loop-d l = (k : ℕ) → k < l.d → IsSet l.flows l.a k → IsSet l.flows l.b k → IsSet l.flows l.c k
