use Rattle.std.proofs.Common.{arith}
use Rattle.mit_syntax.proofs.Putting.{puts_indent}
use Rattle.mit_syntax.proofs.print.chunks.+put_indent.Goals as goal

pub returns : goal.returns
returns t c = puts_indent c.args.depth (omega (arith, c.if-depth-eq0.false)) c.in_ok-put_space.ensures c.in_ok-put_space-2.ensures c.in_ok-put_indent.ensures
