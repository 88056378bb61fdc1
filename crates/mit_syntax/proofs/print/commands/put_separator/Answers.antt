use Rattle.mit_syntax.proofs.Putting.{puts_separator}
use Rattle.mit_syntax.proofs.print.commands.put_separator.Goals as goal

pub returns-in_ok-put_new_line : goal.returns-in_ok-put_new_line
returns-in_ok-put_new_line c = puts_separator c.args.depth c.args.i c.if-i-gt0.true c.in_ok-put_sign.ensures c.in_ok-put_new_line.ensures
