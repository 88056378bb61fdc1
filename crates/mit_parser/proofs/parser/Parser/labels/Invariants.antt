use Rattle.std.proofs.Common.{length}
use Rattle.mit_parser.specs.Headers.{LabelsSoFar}
use Rattle.mit_parser.proofs.parser.Parser.labels.Given as goal

abbrev pub invariant-loop-self : goal.invariant-loop-self
invariant-loop-self l = LabelsSoFar l.labels.keys l.fn.self l.self

abbrev pub decreases-loop-self : goal.decreases-loop-self
decreases-loop-self l = length l.self.words
