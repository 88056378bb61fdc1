use Rattle.std.proofs.Common.{◌≢◌, length, arith, All, take_all, subst, ◌∙◌}
use Rattle.line_batch.proofs.BatchLemmas.{through_at, through_all}
use Rattle.line_batch.proofs.line_end.Goals as goal

pub returns-then-piece-place-eq10-clause-first : goal.returns-then-piece-place-eq10-clause-first
returns-then-piece-place-eq10-clause-first c =
    through_at c.args.piece.now c.loop-place.place c.loop-place-test.true c.loop-place.invariant c.if-piece-place-eq10.true

pub returns-clause-first : goal.returns-clause-first
returns-clause-first c =
    let bytes = c.args.piece.now in
    take_all (length bytes) bytes (omega arith)
    ∙ through_all bytes (subst (λ l. All (λ x. x ≢ 10) l) (take_all c.loop-place.place bytes (omega (arith, c.loop-place-test.false))) c.loop-place.invariant)
