use Rattle.std.specs.Prelude.{◌≢◌, All, take}
use Rattle.line_batch.proofs.line_end.Given as goal

-- no line feed so far
abbrev pub invariant-loop-place : goal.invariant-loop-place
invariant-loop-place l = All (λ x. x ≢ 10) (take l.place l.piece)
