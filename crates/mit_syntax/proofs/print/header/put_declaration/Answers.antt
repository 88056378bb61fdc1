use Rattle.mit_syntax.proofs.Putting.{puts_then}
use Rattle.mit_syntax.proofs.print.header.put_declaration.Goals as goal

pub returns : goal.returns
returns c =
    puts_then c.in_ok-put_key.ensures (puts_then c.in_ok-put_space.ensures (puts_then c.in_ok-put_name.ensures
    (puts_then c.in_ok-put_length.ensures (puts_then c.in_ok-put_variable_label.ensures c.in_ok-put_end_line.ensures))))
