use Rattle.std.proofs.Common.{◌≡◌, ◌^◌, ◌≤◌, drop}
use Rattle.black_box.specs.Lines.{value_in}
use Rattle.black_box.proofs.LineLemmas.{value_left}
use Rattle.black_box.proofs.line.value_of.Given as goal

abbrev pub invariant-loop-byte : goal.invariant-loop-byte
invariant-loop-byte l = record {
  small : l.value ≤ 2 ^ 40;
  so_far : value_left l.value (drop l.byte-index l.digits) ≡ value_in l.digits;
}
