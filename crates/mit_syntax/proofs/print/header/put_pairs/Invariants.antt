use Rattle.mit_syntax.specs.Layout.{pair_part}
use Rattle.mit_syntax.proofs.Listing.{ListedSoFar}
use Rattle.mit_syntax.proofs.print.header.put_pairs.Given as goal

abbrev pub invariant-loop-i : goal.invariant-loop-i
invariant-loop-i l = ListedSoFar l.fn.out.items l.out.items (pair_part l.labels) l.i l.pairs
