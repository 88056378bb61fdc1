use Rattle.mit_syntax.proofs.Putting.{puts_then}
use Rattle.mit_syntax.proofs.print.header.put_labels.Goals as goal

pub returns : goal.returns
returns c = puts_then c.in_ok-put_key.ensures (puts_then c.in_ok-put_space.ensures (puts_then c.in_ok-put_names.ensures c.in_ok-put_end_line.ensures))
