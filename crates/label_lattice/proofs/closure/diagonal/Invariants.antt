use Rattle.std.proofs.Common.{◌*◌, ◌≡◌, ℕ, ◌<◌, false, get_or, length}
use Rattle.label_lattice.specs.Order.{row}
use Rattle.label_lattice.specs.Tables.{on_diagonal}
use Rattle.label_lattice.proofs.closure.diagonal.Given as goal

abbrev pub invariant-loop-i : goal.invariant-loop-i
invariant-loop-i l = (length l.flows ≡ row * row) × ((k : ℕ) → k < l.i → get_or l.flows k false ≡ on_diagonal k)
