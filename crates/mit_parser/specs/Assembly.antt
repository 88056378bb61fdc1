-- The parts of a program.
use Rattle.std.specs.Prelude.{◌≡◌, List, map, Option, Some}
use Rattle.label_lattice.specs.declared.label.Label.{Label}
use Rattle.label_lattice.specs.Order.{Order, IsOrder, AllDiffer}
use Rattle.mit_syntax.specs.declared.ast.Command.{Command}
use Rattle.mit_syntax.specs.Declarations.{Declaration, AreFew}
use Rattle.mit_syntax.specs.Program.{Syntax, syntax}
use Rattle.mit_syntax.specs.Valid.{IsValid}

-- they are those of a program, by what is true of each lattice and of each table of variables
pub record AreParts (lattice : Option Order) (pairs : List (Label × Label)) (declarations : List Declaration) (body : List Command) : Type 0 where
  pub order : Order
  pub there : lattice ≡ Some order
  pub valid : IsOrder order → AreFew declarations → AllDiffer (map (λ d. d.0) declarations) → IsValid (syntax order pairs declarations body)

pub record IsAssembled (lattice : Option Order) (pairs : List (Label × Label)) (declarations : List Declaration) (body : List Command)
    (s : Syntax) : Type 0 where
  pub order : Order
  pub there : lattice ≡ Some order
  pub made : s ≡ syntax order pairs declarations body
