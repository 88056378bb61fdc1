use Rattle.std.proofs.Common.{◌<◌, ℕ}
use Rattle.space_starts.specs.Space.{lists}
use Rattle.space_walk.specs.Agreeing.{Ranges}
use Rattle.space_walk.proofs.agreement.first_ranging.Given as goal

-- no variable so far ranges
abbrev pub invariant-loop-x : goal.invariant-loop-x
invariant-loop-x l = (y : ℕ) → y < l.x → Ranges l.p l.observer.number (lists l.memory) y → ⊥
