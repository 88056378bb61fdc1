-- Where a label comes from that a program omits.
use Rattle.std.specs.Prelude.{◌≡◌, ℕ, cond, List, [], ◌∷◌, ◌++◌, None, Some, All, AllPairs, Contains, slice_get}
use Rattle.label_lattice.specs.Lattice.{Lattice, Flows}
use Rattle.label_lattice.specs.Order.{lattice_of}
use Rattle.mit_syntax.specs.Program.{Syntax, plan_of}
use Rattle.timing_types.specs.Labelled.{LabelledProgram, labels_of, levels_of}
use Rattle.label_infer.specs.Given.{written_levels}
use Rattle.flow_path.specs.declared.step.Spot.{Spot}
use Rattle.flow_path.specs.declared.step.Spot.TheVariants.{Variable, Command, Level}
use Rattle.flow_path.specs.declared.step.Step.{Step}
use Rattle.flow_path.specs.declared.origins.Origin.{Origin}
use Rattle.flow_path.specs.Steps.{written, steps_of}
use Rattle.flow_path.specs.Chains.{Brings, ComesFrom, CostsNoMore}
use Rattle.flow_path.specs.Told.{StandsFirst}
use Rattle.flow_path.specs.Ranks.{IsBefore}

-- it is a variable or a mitigate's level, and the program omits its label
abbrev pub IsOmitted : Syntax → Spot → Type 0
IsOmitted s (Variable x) = written s (Variable x) ≡ None
IsOmitted s (Command l) = ⊥
IsOmitted s (Level k None) = slice_get (written_levels (plan_of s)) k ≡ Some None
IsOmitted s (Level k (Some l)) = ⊥

-- its label
abbrev pub label_there : LabelledProgram → Spot → ℕ
label_there p (Variable x) = labels_of p x
label_there p (Command l) = l.number
label_there p (Level k None) = levels_of p k
label_there p (Level k (Some l)) = l.number

-- Of two chains from a label that cost as much, the earlier one has the earlier step where they part, seen from their ends: no
-- chain from there that costs no more and ends by the same steps has before them one that stands earlier among the steps of the
-- program.
abbrev pub IsEarliestFrom : Syntax → Spot → ℕ → List Step → Type 0
IsEarliestFrom s p a chain =
    (before other after : List Step) (x y : Step) → chain ≡ before ++ (x ∷ after) → Brings s p a (other ++ (y ∷ after))
    → CostsNoMore (other ++ (y ∷ after)) chain → StandsFirst (steps_of s) x y

-- A chain leads there from the written label. No chain from that label is cheaper, and of those that are as cheap it is the
-- earliest.
pub record IsOrigin (s : Syntax) (p : Spot) (w : Origin) : Type 0 where
  pub brings : Brings s p w.label.number w.chain.items
  pub cheapest : (other : List Step) → Brings s p w.label.number other → CostsNoMore w.chain.items other
  pub earliest : IsEarliestFrom s p w.label.number w.chain.items

-- the join of their labels, with bottom
abbrev pub joined : Lattice → List Origin → ℕ
joined lat [] = lat.bottom
joined lat (w ∷ ws) = lat.join w.label.number (joined lat ws)

-- none can be left out: no label of them flows to the join of the others
abbrev pub AreNeeded : Lattice → List Origin → Type 0
AreNeeded lat ws = (before after : List Origin) (w : Origin) → ws ≡ before ++ (w ∷ after) → Flows lat w.label.number (joined lat (before ++ after)) → ⊥

-- one from each label from which a chain leads there, in their order
pub record AreAll (s : Syntax) (p : Spot) (ws : List Origin) : Type 0 where
  pub each : All (IsOrigin s p) ws
  pub order : AllPairs (IsBefore s.order) ws
  pub all : (a : ℕ) → ComesFrom s p a → (w : Origin) × Contains ws w × (w.label.number ≡ a)

-- Those that are needed, from the last one on: one is left out where its label flows to the join of those before it and those
-- after it that are needed. b is the join of the labels before them.
abbrev pub needed_after : Lattice → ℕ → List Origin → List Origin
needed_after lat b [] = []
needed_after lat b (w ∷ ws) =
    let rest = needed_after lat (lat.join b w.label.number) ws in
    cond (lat.flows w.label.number (lat.join b (joined lat rest))) rest (w ∷ rest)

-- those that are told: of all that are there those that are needed
pub record AreTold (s : Syntax) (p : Spot) (ws : List Origin) : Type 0 where
  pub all : List Origin
  pub are : AreAll s p all
  pub needed : ws ≡ needed_after (lattice_of s.order) s.order.bottom all
