-- The one chain that is told of a refusal.
use Rattle.std.specs.Prelude.{◌≡◌, List, ◌∷◌, ◌++◌, Contains}
use Rattle.timing_types.specs.declared.rule.TypeFault.{TypeFault}
use Rattle.timing_types.specs.Labelled.{LabelledProgram}
use Rattle.flow_path.specs.declared.step.Step.{Step}
use Rattle.flow_path.specs.Steps.{steps_of}
use Rattle.flow_path.specs.Chains.{IsReason, AreNoCheaper, CostsNoMore}

-- x stands in a list, and y does not stand before it
pub record StandsFirst (xs : List Step) (x y : Step) : Type 0 where
  pub before : List Step
  pub after : List Step
  pub is : xs ≡ before ++ (x ∷ after)
  pub none : Contains before y → ⊥

-- Of two reasons that cost as much, the earlier one has the earlier step where they part, seen from their ends: no reason
-- that costs no more and ends by the same steps has before them one that stands earlier among the steps of the program.
abbrev pub IsEarliest : LabelledProgram → TypeFault → List Step → Type 0
IsEarliest p fault chain =
    (before other after : List Step) (x y : Step) → chain ≡ before ++ (x ∷ after) → IsReason p fault (other ++ (y ∷ after))
    → CostsNoMore (other ++ (y ∷ after)) chain → StandsFirst (steps_of p.program) x y

-- the reason that is told: no reason is cheaper, and of those that are as cheap it is the earliest
pub record IsTold (p : LabelledProgram) (fault : TypeFault) (chain : List Step) : Type 0 where
  pub reason : IsReason p fault chain
  pub cheapest : AreNoCheaper p fault chain
  pub earliest : IsEarliest p fault chain
