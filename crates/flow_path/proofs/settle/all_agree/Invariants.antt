use Rattle.std.proofs.Common.{ℕ, ◌<◌}
use Rattle.flow_path.specs.Distances.{Agrees}
use Rattle.flow_path.proofs.settle.all_agree.Given as goal

abbrev pub invariant-loop-y : goal.invariant-loop-y
invariant-loop-y l = record {
  agree : (z : ℕ) → z < l.y → Agrees l.p l.known l.found z;
}
