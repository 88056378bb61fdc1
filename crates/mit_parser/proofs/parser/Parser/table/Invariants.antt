use Rattle.std.proofs.Common.{length}
use Rattle.mit_parser.specs.Scope.{labels_in}
use Rattle.mit_parser.specs.Headers.{DeclarationsSoFar}
use Rattle.mit_parser.proofs.parser.Parser.table.Given as goal

abbrev pub invariant-loop-self : goal.invariant-loop-self
invariant-loop-self l = DeclarationsSoFar (labels_in l.fn.lattice) l.table l.fn.self l.self

abbrev pub decreases-loop-self : goal.decreases-loop-self
decreases-loop-self l = length l.self.words
