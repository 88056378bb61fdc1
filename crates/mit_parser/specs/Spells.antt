-- What the parser answers: the program that the words spell, or why there is none.
use Rattle.std.specs.Prelude.{◌≡◌, true, List, [], ◌∷◌, ◌++◌}
use Rattle.text_base.specs.declared.pos.Pos.{Pos}
use Rattle.label_lattice.specs.Chains.{IsBuilt}
use Rattle.mit_syntax.specs.Program.{Syntax, plan_of}
use Rattle.mit_parser.specs.declared.fault.ParseFault.{ParseFault}
use Rattle.mit_parser.specs.declared.fault.ParseFault.TheVariants.{Unexpected, TooDeep, TooMany, Unknown, Twice, Lattice, Memory, Size, Misuse}
use Rattle.mit_parser.specs.Words.{Told, end_at}
use Rattle.mit_parser.specs.Tree.{ProgramTree, front_program}
use Rattle.mit_parser.specs.Counting.{nothing_yet, count, is_over, counts_after, Fits}
use Rattle.mit_parser.specs.Limits.{CommandsWithin}
use Rattle.mit_parser.specs.Scope.{scope}
use Rattle.mit_parser.specs.Meaning.{plan_commands}
use Rattle.mit_parser.specs.Named.{label_names, label_pairs, declarations_in, IsNamed}
use Rattle.mit_parser.specs.Faults.{IsNameFault}

-- the tree spells the words, the last of which is the end
abbrev pub Spells : ProgramTree → List Told → Type 0
Spells t words = (e : Pos) × (words ≡ front_program t (end_at e ∷ []))

-- some continuation is spelled by some tree
abbrev pub Begins : List Told → Type 0
Begins p = (w : List Told) × (t : ProgramTree) × Spells t (p ++ w)

-- the names of the tree are right, and with what they stand for it means the program
pub record Resolves (t : ProgramTree) (s : Syntax) : Type 0 where
  pub named : IsNamed t
  pub order : IsBuilt (label_names t.header) (label_pairs t.header) s.order
  pub pairs : s.pairs ≡ label_pairs t.header
  pub declarations : s.declarations ≡ declarations_in (label_names t.header) t.declarations
  pub plan : plan_of s ≡ plan_commands (scope (label_names t.header) s.declarations) 0 t.commands

-- a tree within the limits spells the words, and means the program
pub record IsProgram (words : List Told) (s : Syntax) : Type 0 where
  pub tree : ProgramTree
  pub spells : Spells tree words
  pub within : CommandsWithin 0 tree.commands
  pub resolves : Resolves tree s

-- the first word with which the words begin no spelling, none before it passing a limit
pub record IsUnexpected (words : List Told) (pos : Pos) : Type 0 where
  pub before : List Told
  pub bad : Told
  pub after : List Told
  pub are : words ≡ before ++ bad ∷ after
  pub place : bad.pos ≡ pos
  pub begins : Begins before
  pub ends : Begins (before ++ bad ∷ []) → ⊥
  pub fit : Fits nothing_yet before

-- the first word that passes a limit, the words with it beginning a spelling
pub record IsTooDeep (words : List Told) (pos : Pos) : Type 0 where
  pub before : List Told
  pub deep : Told
  pub after : List Told
  pub are : words ≡ before ++ deep ∷ after
  pub place : deep.pos ≡ pos
  pub begins : Begins (before ++ deep ∷ [])
  pub fit : Fits nothing_yet before
  pub passes : is_over (count (counts_after nothing_yet before) deep.symbol) ≡ true

-- a tree within the limits spells the words, and this is the first fault of its names
pub record IsMisnamed (words : List Told) (f : ParseFault) : Type 0 where
  pub tree : ProgramTree
  pub spells : Spells tree words
  pub within : CommandsWithin 0 tree.commands
  pub first : IsNameFault tree f

abbrev pub Refuses : List Told → ParseFault → Type 0
Refuses words (Unexpected p) = IsUnexpected words p
Refuses words (TooDeep p) = IsTooDeep words p
Refuses words (TooMany n) = IsMisnamed words (TooMany n)
Refuses words (Unknown p) = IsMisnamed words (Unknown p)
Refuses words (Twice p) = IsMisnamed words (Twice p)
Refuses words (Lattice l) = IsMisnamed words (Lattice l)
Refuses words (Size p) = IsMisnamed words (Size p)
Refuses words (Misuse p) = IsMisnamed words (Misuse p)
Refuses words Memory = Unit {0}
