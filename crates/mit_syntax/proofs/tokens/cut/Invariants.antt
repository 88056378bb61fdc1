use Rattle.std.proofs.Common.{length}
use Rattle.mit_syntax.specs.TokenSteps.{CutSoFar}
use Rattle.mit_syntax.proofs.tokens.cut.Given as goal

abbrev pub invariant-loop-lexer : goal.invariant-loop-lexer
invariant-loop-lexer l = CutSoFar l.fn.text l.lexer l.list.items

abbrev pub decreases-loop-lexer : goal.decreases-loop-lexer
decreases-loop-lexer l = length l.lexer.1
