use Rattle.std.proofs.Common.{refl}
use Rattle.mit_syntax.specs.Layout.{pair_part}
use Rattle.mit_syntax.proofs.Listing.{next_listed, all_listed}
use Rattle.mit_syntax.proofs.print.header.put_pairs.Goals as goal

pub put_pair-requires-clause-lower : goal.put_pair-requires-clause-lower
put_pair-requires-clause-lower c = (c.requires c.loop-i.i _ c.loop-i-test.true).0

pub put_pair-requires-clause-upper : goal.put_pair-requires-clause-upper
put_pair-requires-clause-upper c = (c.requires c.loop-i.i _ c.loop-i-test.true).1

pub loop-i-preserved : goal.loop-i-preserved
loop-i-preserved c = next_listed (pair_part c.args.labels.now) c.args.pairs.now _ _ c.loop-i.i c.loop-i-test.true refl c.loop-i.invariant
    c.in_ok-put_comma_before.ensures c.in_ok-put_pair.ensures

pub returns : goal.returns
returns c = all_listed (pair_part c.args.labels.now) c.args.pairs.now c.loop-i.i c.loop-i-test.false c.loop-i.invariant
