use Rattle.std.proofs.Common.{◌-◌, ◌/◌, ◌<◌, subst, ℕ}
use Rattle.mit_syntax.proofs.LexLongest.{too_large}
use Rattle.mit_syntax.proofs.lexeme.number_of.Goals as goal

pub returns-then-n-digit : goal.returns-then-n-digit
returns-then-n-digit c =
    too_large c.loop-b.n c.loop-b.b-index c.args.digits.now c.loop-b-test.true c.loop-b.invariant.so_far
    (subst (λ (d : ℕ). (9223372036854775807 - d) / 10 < c.loop-b.n) c.from-digit.ensures c.if-n-digit.true)
