-- What a word names in a program.
use Rattle.std.specs.Prelude.{◌<◌, ℕ, List, Option, None, Some, if◌then◌else◌, nat_lt, option_and_then}
use Rattle.clap.specs.Lexer.{strip_byte}
use Rattle.mit_syntax.specs.Declarations.{declared, variables}
use Rattle.mit_syntax.specs.Plan.{mitigates}
use Rattle.mit_syntax.specs.Program.{Syntax, plan_of}
use Rattle.flow_path.specs.declared.step.Spot.{Spot}
use Rattle.flow_path.specs.declared.step.Spot.TheVariants.{Variable, Command, Level}
use Rattle.tool_words.specs.WordsValues.{number_in}

-- the variable with a number, if there is one
abbrev pub variable_at : Syntax → ℕ → Option Spot
variable_at p x = if nat_lt x (variables p.declarations) then Some (Variable x) else None

-- the level of the mitigate with a mark, if there is one
abbrev pub level_at : Syntax → Option ℕ → Option Spot
level_at p None = None
level_at p (Some k) = if nat_lt k (mitigates (plan_of p)) then Some (Level k None) else None

-- the variable or the first element of the array with a name
abbrev pub variable_named : Syntax → List ℕ → Option Spot
variable_named p w = option_and_then (λ r. variable_at p r.0) (declared p.declarations w)

-- by what follows a first `#`, if one stands there
abbrev pub named_by : Syntax → List ℕ → Option (List ℕ) → Option Spot
named_by p w None = variable_named p w
named_by p w (Some digits) = level_at p (number_in 0 4294967295 digits)

-- A variable or an array by its name, or by `#K` the level of the mitigate with the mark K.
abbrev pub named : Syntax → List ℕ → Option Spot
named p w = named_by p w (strip_byte 35 w)

-- the variable or the mitigate is one of the program
abbrev pub IsThere : Syntax → Spot → Type 0
IsThere p (Variable x) = x < variables p.declarations
IsThere p (Command l) = ⊥
IsThere p (Level k None) = k < mitigates (plan_of p)
IsThere p (Level k (Some l)) = ⊥
