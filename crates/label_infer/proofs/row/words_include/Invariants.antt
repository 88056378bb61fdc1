use Rattle.std.proofs.Common.{◌≡◌, ◌<◌, ℕ, get_or, bit_or}
use Rattle.label_infer.proofs.row.words_include.Given as goal

abbrev pub invariant-loop-i : goal.invariant-loop-i
invariant-loop-i l = (k : ℕ) → k < l.i → get_or l.words k 0 ≡ bit_or (get_or l.words k 0) (get_or l.other k 0)
