use Rattle.std.proofs.Common.{◌≡◌, ◌<◌, ℕ, [], length}
use Rattle.std.specs.Prelude.{None, slice_index_or}
use Rattle.flow_path.specs.declared.step.Spot.TheVariants.{Variable}
use Rattle.flow_path.specs.Steps.{written}
use Rattle.flow_path.specs.Distances.{cost_by}
use Rattle.flow_path.proofs.known_costs.starts.Given as goal

abbrev pub invariant-loop-y : goal.invariant-loop-y
invariant-loop-y l = record {
  fit : length l.variables.items ≡ l.y;
  each : (y : ℕ) → y < length l.variables.items → slice_index_or l.variables.items y None ≡ cost_by l.p l.target [] (Variable y) (written l.p (Variable y));
}
