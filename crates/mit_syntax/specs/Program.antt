-- A program as contracts see it.
use Rattle.std.specs.Prelude.{List}
use Rattle.label_lattice.specs.declared.label.Label.{Label}
use Rattle.label_lattice.specs.Order.{Order}
use Rattle.mit_syntax.specs.declared.ast.Command.{Command}
use Rattle.mit_syntax.specs.Declarations.{Declaration}
use Rattle.mit_syntax.specs.Plan.{Plan, list_plan}

-- its labels with their order, the pairs of labels that give the order as they are written, what is declared,
-- and the commands
pub record Syntax : Type 0 where
  pub order : Order
  pub pairs : List (Label × Label)
  pub declarations : List Declaration
  pub plan : Plan

-- the program of a list of commands, wherever they lie in memory
abbrev pub syntax : Order → List (Label × Label) → List Declaration → List Command → Syntax
syntax order pairs declarations body = record { order = order; pairs = pairs; declarations = declarations; plan = list_plan body }

-- the commands as one value
abbrev pub plan_of : Syntax → Plan
plan_of s = s.plan
