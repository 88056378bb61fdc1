use Rattle.std.proofs.Common.{◌+◌, ◌-◌, ◌*◌, length}
use Rattle.mit_syntax.specs.Expression.{expression_of}
use Rattle.mit_parser.specs.Reads.{TermSoFar, SumSoFar, scope_of}
use Rattle.mit_parser.proofs.parser.Parser.+expression.Given as goal

abbrev pub decreases-index : goal.decreases-index
decreases-index l = 6 * (200 - l.self.now.counts.depth)

abbrev pub decreases-named : goal.decreases-named
decreases-named l = 6 * (200 - l.self.now.counts.depth) + 1

abbrev pub decreases-atom : goal.decreases-atom
decreases-atom l = 6 * (200 - l.self.now.counts.depth) + 2

abbrev pub decreases-term : goal.decreases-term
decreases-term l = 6 * (200 - l.self.now.counts.depth) + 3

abbrev pub decreases-sum : goal.decreases-sum
decreases-sum l = 6 * (200 - l.self.now.counts.depth) + 4

abbrev pub decreases-expr : goal.decreases-expr
decreases-expr l = 6 * (200 - l.self.now.counts.depth) + 5

abbrev pub invariant-sum-loop-op : goal.invariant-sum-loop-op
invariant-sum-loop-op l = SumSoFar (scope_of l.fn.names) l.fn.self l.self (expression_of l.left)

abbrev pub decreases-sum-loop-op : goal.decreases-sum-loop-op
decreases-sum-loop-op l = length l.self.words

abbrev pub invariant-term-loop-op : goal.invariant-term-loop-op
invariant-term-loop-op l = TermSoFar (scope_of l.fn.names) l.fn.self l.self (expression_of l.left)

abbrev pub decreases-term-loop-op : goal.decreases-term-loop-op
decreases-term-loop-op l = length l.self.words
