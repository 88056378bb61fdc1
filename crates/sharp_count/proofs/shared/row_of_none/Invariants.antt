use Rattle.std.proofs.Common.{◌≡◌, ℕ, ◌<◌, length, get_or}
use Rattle.leak_bound.specs.Digits.{digits}
use Rattle.sharp_count.specs.Shares.{shares}
use Rattle.sharp_count.proofs.shared.row_of_none.Given as goal

abbrev pub invariant-loop-spent : goal.invariant-loop-spent
invariant-loop-spent l = (length l.place-items ≡ 65) × ((j : ℕ) → j < l.spent → get_or l.place-items j 0 ≡ shares (digits l.most) 0 l.most j)
