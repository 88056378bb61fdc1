use Rattle.std.proofs.Common.{◌<◌, length, arith}
use Rattle.std.proofs.lemmas.Grind.{common_steps}
use Rattle.mit_syntax.proofs.Putting.{puts_then}
use Rattle.mit_syntax.proofs.Listing.{puts_order}
use Rattle.mit_syntax.proofs.print.header.put_order.Goals as goal

pub returns : goal.returns
returns c =
    let some : 0 < length c.args.pairs.now = grind (arith, common_steps, c.is_empty.ensures, c.if-is_empty.false) in
    puts_order c.args.labels.now c.args.pairs.now some
    (puts_then c.in_ok-put_key.ensures (puts_then c.in_ok-put_space.ensures (puts_then c.in_ok-put_pairs.ensures c.in_ok-put_end_line.ensures)))
