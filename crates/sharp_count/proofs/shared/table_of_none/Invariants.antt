use Rattle.std.proofs.Common.{◌≡◌, ℕ, ◌<◌, [], length, get_or}
use Rattle.sharp_count.specs.Shares.{IsRow}
use Rattle.sharp_count.proofs.shared.table_of_none.Given as goal

abbrev pub invariant-loop-powers : goal.invariant-loop-powers
invariant-loop-powers l = (length l.table.items ≡ l._powers) × ((k : ℕ) → k < l._powers → IsRow 0 k (get_or l.table.items k []))
