use Rattle.std.proofs.Common.{◌≡◌, length}
use Rattle.sharp_count.proofs.Table.{Renewed}
use Rattle.sharp_count.proofs.shared.double.Given as goal

abbrev pub invariant-loop-powers : goal.invariant-loop-powers
invariant-loop-powers l = (length l.table ≡ 65) × Renewed l.most l.powers l.table
