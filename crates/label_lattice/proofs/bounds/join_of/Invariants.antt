use Rattle.std.proofs.Common.{ℕ, ◌<◌}
use Rattle.label_lattice.specs.Chains.{IsJoin}
use Rattle.label_lattice.specs.Tables.{IsSet}
use Rattle.label_lattice.proofs.bounds.join_of.Given as goal

abbrev pub invariant-loop-c : goal.invariant-loop-c
invariant-loop-c l = (k : ℕ) → k < l.c → IsJoin l.size (IsSet l.flows) l.a l.b k → ⊥
