use Rattle.std.proofs.Common.{length}
use Rattle.mit_parser.specs.Headers.{PairsSoFar}
use Rattle.mit_parser.proofs.parser.Parser.pairs.Given as goal

abbrev pub invariant-loop-self : goal.invariant-loop-self
invariant-loop-self l = PairsSoFar l.fn.labels.keys l.list.items l.fn.self l.self

abbrev pub decreases-loop-self : goal.decreases-loop-self
decreases-loop-self l = length l.self.words
