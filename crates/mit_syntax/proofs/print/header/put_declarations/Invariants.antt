use Rattle.mit_syntax.proofs.Listing.{DeclaredSoFar}
use Rattle.mit_syntax.proofs.print.header.put_declarations.Given as goal

abbrev pub invariant-loop-k : goal.invariant-loop-k
invariant-loop-k l = DeclaredSoFar l.fn.out.items l.out.items l.labels l.k l.variables
