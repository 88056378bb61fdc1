use Rattle.mit_syntax.proofs.Putting.{puts_then}
use Rattle.mit_syntax.proofs.print.header.put_end_line.Goals as goal

pub returns : goal.returns
returns c = puts_then c.in_ok-put_sign.ensures c.in_ok-put_line.ensures
