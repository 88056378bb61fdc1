use Rattle.std.proofs.Common.{arith, false, length-set, ◌∙◌}
use Rattle.std.proofs.lemmas.List.Edits.{fill_by_more}
use Rattle.label_lattice.specs.Tables.{on_diagonal}
use Rattle.label_lattice.proofs.closure.diagonal.Goals as goal

pub loop-i-preserved : goal.loop-i-preserved
loop-i-preserved c = (length-set _ _ _ ∙ c.loop-i.invariant.0, fill_by_more on_diagonal c.loop-i.flows c.loop-i.i false (omega arith) c.loop-i.invariant.1)
