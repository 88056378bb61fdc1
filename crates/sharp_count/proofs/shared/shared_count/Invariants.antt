use Rattle.std.proofs.Common.{◌≡◌, ◌/◌, ◌^◌, length}
use Rattle.sharp_count.specs.Shares.{IsTable}
use Rattle.sharp_count.proofs.shared.shared_count.Given as goal

abbrev pub invariant-loop-place : goal.invariant-loop-place
invariant-loop-place l = (length l.table.items ≡ 65) × IsTable (l.most / 2 ^ l.place) l.table.items
