use Rattle.std.proofs.Common.{◌≡◌, ℕ, ◌<◌}
use Rattle.label_lattice.specs.Tables.{IsSet}
use Rattle.label_lattice.proofs.bounds.is_lowest.Given as goal

abbrev pub invariant-loop-c : goal.invariant-loop-c
invariant-loop-c l = (k : ℕ) → k < l.c → IsSet l.flows k l.a → k ≡ l.a
