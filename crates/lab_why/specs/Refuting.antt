-- What a chain is worth.
use Rattle.std.specs.Prelude.{List}
use Rattle.label_lattice.specs.Order.{IsOrder}
use Rattle.mit_syntax.specs.Program.{Syntax}
use Rattle.timing_types.specs.Labelling.{Labelling, IsLabelling}
use Rattle.timing_types.specs.Labelled.{HasType}
use Rattle.flow_path.specs.declared.step.Step.{Step}
use Rattle.flow_path.specs.Chains.{IsWhy}

-- A chain that leads from a written label to a written label to which it does not flow refutes every labelling that keeps
-- what the program writes.
abbrev pub ChainsRefute : Type 0
ChainsRefute =
    (p : Syntax) → IsOrder p.order → (chain : List Step) → IsWhy p chain → (l : Labelling) → IsLabelling p l
    → HasType (record { program = p; labels = l }) → ⊥
