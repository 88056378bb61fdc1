use Rattle.std.proofs.Common.{◌≡◌, ◌+◌, ◌≤◌, length, take}
use Rattle.std.specs.List.{suffix_len}
use Rattle.black_box.specs.Lines.{is_blank}
use Rattle.black_box.proofs.line.len_without_trailing_blanks.Given as goal

abbrev pub invariant-loop-len : goal.invariant-loop-len
invariant-loop-len l = record {
  within : l.len ≤ length l.line;
  rest : l.len + suffix_len is_blank l.line ≡ length l.line + suffix_len is_blank (take l.len l.line);
}

abbrev pub decreases-loop-len : goal.decreases-loop-len
decreases-loop-len l = l.len
