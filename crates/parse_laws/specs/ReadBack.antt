-- A text reads back as a program, but for positions.
use Rattle.std.specs.Prelude.{◌≡◌, ℕ, List, Option}
use Rattle.label_lattice.specs.declared.label.Label.{Label}
use Rattle.mit_syntax.specs.declared.token.Token.{Token}
use Rattle.mit_syntax.specs.Cut.{AreTokens}
use Rattle.mit_syntax.specs.Todo.{Todo, map_todo}
use Rattle.mit_syntax.specs.Plan.{Plan}
use Rattle.mit_syntax.specs.Program.{Syntax, plan_of}
use Rattle.mit_parser.specs.Words.{told}
use Rattle.mit_parser.specs.Spells.{IsProgram}

-- the commands without their positions
abbrev pub unplaced : Plan → Todo (Option (Label × Label)) (Option Label)
unplaced p = map_todo (λ w. w.labels) (λ l. l) p

-- the programs differ in the positions of commands alone
pub record Same (s u : Syntax) : Type 0 where
  pub order : s.order ≡ u.order
  pub pairs : s.pairs ≡ u.pairs
  pub declarations : s.declarations ≡ u.declarations
  pub commands : unplaced (plan_of s) ≡ unplaced (plan_of u)

-- the text has tokens, which are the program but for positions
pub record ReadsBack (text : List ℕ) (s : Syntax) : Type 0 where
  pub tokens : List Token
  pub are : AreTokens text tokens
  pub program : Syntax
  pub is : IsProgram (told text tokens) program
  pub same : Same program s
