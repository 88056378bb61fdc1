use Rattle.fault_print.proofs.Lines.{one_more}
use Rattle.fault_print.proofs.marked.from_line.Goals as goal

pub loop-passed-preserved : goal.loop-passed-preserved
loop-passed-preserved c =
    one_more c.args.number c.loop-passed._passed c.loop-passed.rest.now _ _ c.loop-passed-test.true c.line_rest-rest.ensures c.loop-passed.invariant
