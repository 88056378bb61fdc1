-- What is read of a certificate.
use Rattle.std.specs.Prelude.{◌≡◌, ℕ, List, [], ◌∷◌, length, Option, None, Some}
use Rattle.label_lattice.specs.declared.label.Label.{Label}
use Rattle.mit_syntax.specs.Plan.{count}
use Rattle.mit_syntax.specs.Program.{Syntax, plan_of}
use Rattle.type_cert.specs.declared.line.Line.{Line}
use Rattle.type_cert.specs.Certificate.{spread, BeginsWith}

-- the labels of variables and the lines of a certificate
pub record AreContents (s : Syntax) (bytes : List ℕ) (variables : List Label) (lines : List Line) : Type 0 where
  pub declared : List Label
  pub begins : BeginsWith s declared lines bytes []
  pub all_variables : length declared ≡ length s.declarations
  pub all_commands : length lines ≡ count (plan_of s)
  pub spreads : variables ≡ spread s.declarations declared

-- the program-counter labels of the mitigates, which are the lines with a level
abbrev pub pc_before : Option Label → Label → List Label → List Label
pc_before None pc ls = ls
pc_before (Some l) pc ls = pc ∷ ls

abbrev pub pcs_in : List Line → List Label
pcs_in [] = []
pcs_in (x ∷ xs) = pc_before x.level x.pc (pcs_in xs)
