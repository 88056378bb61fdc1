-- The program that the text spells.
use Rattle.std.proofs.Common.{List, [], ◌∷◌, pos, codes, Some, None}
use Rattle.mit_syntax.specs.Expression.{Number, Variable}
use Rattle.mit_syntax.specs.Todo.{Done, Assign, Sleep, Mitigate}
use Rattle.mit_syntax.specs.Plan.{Plan}
use Rattle.mit_syntax.specs.Declarations.{Declaration}
use Rattle.mit_syntax.specs.Program.{Syntax}
use Rattle.tool_laws.proofs.Order.{low, high, two, pairs}

abbrev pub declarations : List Declaration
declarations = (codes "h", record { label = Some high; length = None }) ∷ (codes "l", record { label = Some low; length = None }) ∷ []

abbrev pub commands : Plan
commands =
    Mitigate (record { pos = record { line = 4; column = 1 }; labels = None }) 0 (Some high) (Number (pos 1))
    (Sleep (record { pos = record { line = 4; column = 19 }; labels = None }) (Variable 0) Done)
    (Assign (record { pos = record { line = 5; column = 1 }; labels = None }) 1 (Number (pos 1)) Done)

abbrev pub program : Syntax
program = record { order = two; pairs = pairs; declarations = declarations; plan = commands }
