use Rattle.mit_syntax.proofs.Putting.{puts_then}
use Rattle.mit_syntax.proofs.print.header.put_pair.Goals as goal

pub returns : goal.returns
returns c = puts_then c.in_ok-put_label.ensures (puts_then c.in_ok-put_spaced.ensures c.in_ok-put_label-2.ensures)
