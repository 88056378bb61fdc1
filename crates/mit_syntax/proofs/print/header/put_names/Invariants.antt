use Rattle.mit_syntax.specs.Layout.{a_name}
use Rattle.mit_syntax.proofs.Listing.{ListedSoFar}
use Rattle.mit_syntax.proofs.print.header.put_names.Given as goal

abbrev pub invariant-loop-number : goal.invariant-loop-number
invariant-loop-number l = ListedSoFar l.fn.out.items l.out.items a_name l.number l.labels.names
