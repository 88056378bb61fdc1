use Rattle.std.proofs.Common.{◌≡◌, ℕ, ◌<◌, true, get_or}
use Rattle.black_box.specs.Lines.{is_blank}
use Rattle.black_box.proofs.line.leading_blanks.Given as goal

abbrev pub invariant-loop-i : goal.invariant-loop-i
invariant-loop-i l = (k : ℕ) → k < l.i → is_blank (get_or l.line k 0) ≡ true
