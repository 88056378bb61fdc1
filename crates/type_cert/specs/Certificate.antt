-- Certificates of a program, and the first wrong line of bytes that are none.
use Rattle.std.specs.Prelude.{◌≡◌, ℕ, ◌+◌, ◌<◌, ◌⊎◌, List, [], ◌∷◌, ◌++◌, length, map, replicate, Option, None, Some, slice_index_or}
use Rattle.label_lattice.specs.declared.label.Label.{Label}
use Rattle.label_lattice.specs.Order.{lattice_of}
use Rattle.mit_syntax.specs.Plan.{count}
use Rattle.mit_syntax.specs.Declarations.{Declaration, size_of}
use Rattle.mit_syntax.specs.Program.{Syntax, plan_of}
use Rattle.timing_types.specs.declared.rule.Rule.TheVariants.{Skip as RSkip}
use Rattle.timing_types.specs.Labelling.{Labelling, label_at, IsKept}
use Rattle.timing_types.specs.Labelled.{LabelledProgram}
use Rattle.type_cert.specs.declared.line.Line.{Line}
use Rattle.type_cert.specs.declared.place.Place.{Place}
use Rattle.type_cert.specs.declared.place.Start.TheVariants.{First}
use Rattle.type_cert.specs.declared.place.Close.TheVariants.{Open}
use Rattle.type_cert.specs.Places.{label, places}
use Rattle.type_cert.specs.Demands.{IsFormed, Meets}
use Rattle.type_cert.specs.Text.{certificate_text}

-- a label for each variable from one for each declaration: all elements of an array have one
abbrev pub spread : List Declaration → List Label → List Label
spread [] ls = []
spread (d ∷ ds) [] = []
spread (d ∷ ds) (l ∷ ls) = replicate (size_of d.1) l ++ spread ds ls

-- the places of the program's commands, where the declarations have these labels
abbrev pub places_of : Syntax → List Label → List Place
places_of s ls =
    places (lattice_of s.order) (label_at s.order.bottom (spread s.declarations ls)) (plan_of s) 0 s.order.bottom First Open

-- the line with a number
abbrev pub no_line : ℕ → Line
no_line b = record { rule = RSkip; pc = label b; start = label b; read = label b; write = label b; end = label b; level = None }

abbrev pub line_at : ℕ → List Line → ℕ → Line
line_at b xs i = slice_index_or xs i (no_line b)

-- each of the second list fits what stands in its place in the first
abbrev pub AllFit : {A B : Type 0} → (A → B → Type 0) → List A → List B → Type 0
AllFit P xs [] = Unit {0}
AllFit P [] (y ∷ ys) = ⊥
AllFit P (x ∷ xs) (y ∷ ys) = P x y × AllFit P xs ys

-- the label of a declaration is one of the labels below n, and keeps the written one
abbrev pub FitsDeclaration : ℕ → Declaration → Label → Type 0
FitsDeclaration n d l = (l.number < n) × IsKept d.1.label l.number

-- the line of a command has its form and meets its demands
abbrev pub FitsPlace : Syntax → List Line → Place → Line → Type 0
FitsPlace s xs p x = IsFormed s.order.size p.act x × Meets (lattice_of s.order) (line_at s.order.bottom xs) p x

-- The bytes begin with right lines: the first line, those of declarations, and, after all of these, those of
-- commands. What follows is the rest.
pub record BeginsWith (s : Syntax) (ls : List Label) (xs : List Line) (bytes rest : List ℕ) : Type 0 where
  pub text : bytes ≡ certificate_text s.order s.declarations ls xs ++ rest
  pub variables : AllFit (FitsDeclaration s.order.size) s.declarations ls
  pub complete : 0 < length xs → length ls ≡ length s.declarations
  pub commands : AllFit (FitsPlace s xs) (places_of s ls) xs

-- the first n lines are right
abbrev pub AreRight : Syntax → List ℕ → ℕ → Type 0
AreRight s bytes n = (n ≡ 0) ⊎ ((ls : List Label) × (xs : List Line) × (rest : List ℕ) × BeginsWith s ls xs bytes rest × (n ≡ 1 + length ls + length xs))

-- the levels in lines, in their order
abbrev pub before : Option Label → List Label → List Label
before None ls = ls
before (Some l) ls = l ∷ ls

abbrev pub levels_in : List Line → List Label
levels_in [] = []
levels_in (x ∷ xs) = before x.level (levels_in xs)

-- the labelling that a certificate holds
abbrev pub held_in : Syntax → List Label → List Line → Labelling
held_in s ls xs = record { variables = spread s.declarations ls; commands = map (λ x. (x.read, x.write)) xs; levels = levels_in xs }

-- the bytes are a certificate of the program, which holds its labelling: a right line for each declaration and each
-- command, and nothing more
pub record IsCertificate (q : LabelledProgram) (bytes : List ℕ) : Type 0 where
  pub variables : List Label
  pub lines : List Line
  pub begins : BeginsWith q.program variables lines bytes []
  pub all_variables : length variables ≡ length q.program.declarations
  pub all_commands : length lines ≡ count (plan_of q.program)
  pub labels : q.labels ≡ held_in q.program variables lines

-- Line n is the first wrong one: the first lines are right, however many of those before it, but not with it, and
-- the bytes are no certificate. After the last line of a certificate that is the line in which anything else follows.
pub record IsFirstWrong (s : Syntax) (bytes : List ℕ) (n : ℕ) : Type 0 where
  pub right : (k : ℕ) → k < n → AreRight s bytes k
  pub wrong : AreRight s bytes n → ⊥
  pub none : (l : Labelling) → IsCertificate (record { program = s; labels = l }) bytes → ⊥
