use Rattle.std.proofs.Common.{◌≡◌, ◌<◌, ◌≤◌, ℕ, length, get_or, bit_or}
use Rattle.label_infer.proofs.row.unite_words.Given as goal

abbrev pub invariant-loop-i : goal.invariant-loop-i
invariant-loop-i l = record {
  full : length l.words ≡ 48;
  done : (k : ℕ) → k < l.i → get_or l.words k 0 ≡ bit_or (get_or l.fn.words k 0) (get_or l.other k 0);
  rest : (k : ℕ) → l.i ≤ k → get_or l.words k 0 ≡ get_or l.fn.words k 0;
}
