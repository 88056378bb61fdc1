use Rattle.std.proofs.Common.{◌≡◌, ℕ, ◌<◌, true, get_or}
use Rattle.mit_syntax.specs.Cut.{in_line}
use Rattle.mit_syntax.proofs.tokens.line_len.Given as goal

abbrev pub invariant-loop-i : goal.invariant-loop-i
invariant-loop-i l = (k : ℕ) → k < l.i → in_line (get_or l.text k 0) ≡ true
