use Rattle.std.proofs.Common.{arith, length-set, ◌∙◌}
use Rattle.label_lattice.specs.Tables.{IsJoinOf}
use Rattle.label_lattice.proofs.Filled.{fill_that}
use Rattle.label_lattice.proofs.bounds.joins.Goals as goal

pub loop-i-preserved : goal.loop-i-preserved
loop-i-preserved c = (
  length-set _ _ _ ∙ c.loop-i.invariant.0,
  fill_that (IsJoinOf c.args.size c.args.flows.now) c.loop-i.joins c.loop-i.i c.join_at.result (omega arith) c.loop-i.invariant.1 c.join_at.ensures,
)
