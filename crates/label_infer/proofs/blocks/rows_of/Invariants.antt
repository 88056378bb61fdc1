use Rattle.std.proofs.Common.{◌≡◌, ◌+◌, ◌/◌, length}
use Rattle.label_infer.specs.Blocks.{Cover}
use Rattle.label_infer.proofs.blocks.rows_of.Given as goal

abbrev pub invariant-loop-i : goal.invariant-loop-i
invariant-loop-i l = record {
  fit : length l.rows.items ≡ (l.i + 63) / 64;
  cover : Cover l.conditions l.i l.rows.items;
}
