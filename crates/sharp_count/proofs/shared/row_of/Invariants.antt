use Rattle.std.proofs.Common.{◌≡◌, ℕ, ◌<◌, length, get_or}
use Rattle.leak_bound.specs.Digits.{digits}
use Rattle.sharp_count.specs.Shares.{shares}
use Rattle.sharp_count.proofs.shared.row_of.Given as goal

abbrev pub invariant-loop-spent : goal.invariant-loop-spent
invariant-loop-spent l = (length l.row ≡ 65) × ((j : ℕ) → j < l.spent → get_or l.row j 0 ≡ shares (digits l.most) l.powers l.most j)
