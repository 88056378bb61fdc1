use Rattle.std.proofs.Common.{◌*◌, ◌≡◌, ℕ, ◌<◌, get_or, length}
use Rattle.label_lattice.specs.Order.{row}
use Rattle.label_lattice.specs.Tables.{IsJoinOf}
use Rattle.label_lattice.proofs.bounds.joins.Given as goal

abbrev pub invariant-loop-i : goal.invariant-loop-i
invariant-loop-i l = (length l.joins ≡ row * row) × ((k : ℕ) → k < l.i → IsJoinOf l.size l.flows k (get_or l.joins k 0))
