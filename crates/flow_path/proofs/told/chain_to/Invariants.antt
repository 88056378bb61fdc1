use Rattle.std.proofs.Common.{◌≡◌, List, ◌∷◌, reverse}
use Rattle.flow_path.specs.declared.step.Step.{Step}
use Rattle.flow_path.specs.Distances.{AreSettled, IsPicked, PartCosts}
use Rattle.flow_path.specs.declared.target.Target.{Target}
use Rattle.flow_path.proofs.told.chain_to.Given as goal

abbrev pub invariant-loop-next : goal.invariant-loop-next
invariant-loop-next l = record {
  begins : (rest : List Step) × (reverse l.chain.items ≡ l.now.step ∷ rest);
  picked : IsPicked l.p l.all (reverse l.chain.items);
  costs : (t : Target) (A : AreSettled l.p t l.all) → PartCosts l.p t A.costs l.now.step.part l.now.cost;
}

abbrev pub decreases-loop-next : goal.decreases-loop-next
decreases-loop-next l = l.now.cost.steps
