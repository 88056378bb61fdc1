-- The program that the text spells.
use Rattle.std.proofs.Common.{List, [], ◌∷◌, pos, codes, Some, None}
use Rattle.mit_syntax.specs.Expression.{Number}
use Rattle.mit_syntax.specs.Todo.{Done, Assign}
use Rattle.mit_syntax.specs.Plan.{Plan}
use Rattle.mit_syntax.specs.Declarations.{Declaration}
use Rattle.mit_syntax.specs.Program.{Syntax}
use Rattle.tool_laws.proofs.Order.{low, two, pairs}

abbrev pub declarations : List Declaration
declarations = (codes "l", record { label = Some low; length = None }) ∷ []

abbrev pub commands : Plan
commands = Assign (record { pos = record { line = 3; column = 1 }; labels = None }) 0 (Number (pos 7)) Done

abbrev pub program : Syntax
program = record { order = two; pairs = pairs; declarations = declarations; plan = commands }
