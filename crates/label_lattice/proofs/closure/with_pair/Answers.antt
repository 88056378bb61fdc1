use Rattle.std.proofs.Common.{arith, false, length-set, ◌∙◌}
use Rattle.std.proofs.lemmas.List.Edits.{fill_by_more}
use Rattle.label_lattice.specs.Tables.{extended}
use Rattle.label_lattice.proofs.closure.with_pair.Goals as goal

pub loop-i-preserved : goal.loop-i-preserved
loop-i-preserved c = (
  length-set _ _ _ ∙ c.loop-i.invariant.0,
  rw c.by_way.ensures (fill_by_more (extended c.args.old.now c.args.x c.args.y) c.loop-i.flows c.loop-i.i false (omega arith) c.loop-i.invariant.1),
)
