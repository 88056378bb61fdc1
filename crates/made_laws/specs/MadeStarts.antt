-- The starts of a made program.
use Rattle.std.specs.Prelude.{ℕ, pos, ◌*◌, List, [], ◌∷◌, All, Ok}
use Rattle.mit_syntax.specs.declared.token.Token.{Token}
use Rattle.mit_syntax.specs.Cut.{AreTokens}
use Rattle.mit_syntax.specs.Program.{Syntax}
use Rattle.mit_parser.specs.Words.{told}
use Rattle.mit_parser.specs.Spells.{IsProgram}
use Rattle.mit_gen.specs.Made.{program_text, starts_text}
use Rattle.start_file.specs.Starts.{StartValue, Gives, IsFor}

-- the text of the made program of this size and number spells the program
abbrev pub IsMade : ℕ → ℕ → Syntax → Type 0
IsMade size number p = (tokens : List Token) × AreTokens (program_text size number) tokens × IsProgram (told (program_text size number) tokens) p

-- the start of run r, counted from 0: l0 to l3 are 0, h0 is r, h1 is 2 r, h2 is 3 r and h3 is 5 r, and nothing is touched
abbrev pub made_start : ℕ → StartValue
made_start r = record { memory = pos 0 ∷ pos 0 ∷ pos 0 ∷ pos 0 ∷ pos r ∷ pos (2 * r) ∷ pos (3 * r) ∷ pos (5 * r) ∷ []; touches = [] }

abbrev pub made_starts : List StartValue
made_starts = made_start 0 ∷ made_start 1 ∷ made_start 2 ∷ made_start 3 ∷ []

-- the text of the starts gives the program these, and each has a value for each variable of the program
pub record HasMadeStarts (p : Syntax) : Type 0 where
  pub gives : Gives p starts_text (Ok made_starts)
  pub valid : All (IsFor p) made_starts
