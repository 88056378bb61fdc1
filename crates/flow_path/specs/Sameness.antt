-- When two lists of chains tell the same.
use Rattle.std.specs.Prelude.{◌≡◌, ℕ, List, map}
use Rattle.flow_path.specs.declared.step.Step.{Step}
use Rattle.flow_path.specs.declared.origins.Origin.{Origin}

-- the label's number and the steps that lead from there
abbrev pub label_and_steps : Origin → ℕ × List Step
label_and_steps w = (w.label.number, w.chain.items)

-- at each place the same label and the same steps
abbrev pub TellTheSame : List Origin → List Origin → Type 0
TellTheSame xs ys = map label_and_steps xs ≡ map label_and_steps ys
