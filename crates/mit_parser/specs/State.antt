-- What a parser has before it, and what it keeps.
use Rattle.std.specs.Prelude.{ℕ, ◌≤◌, ◌^◌, List, [], ◌∷◌, length, Option, None}
use Rattle.mit_syntax.specs.declared.token.Token.{Token}
use Rattle.mit_parser.specs.declared.counts.Counts.{Counts}
use Rattle.mit_parser.specs.declared.fault.ParseFault.{ParseFault}
use Rattle.mit_parser.specs.Words.{Told, told, IsEnded, AreProper}
use Rattle.mit_parser.specs.Counting.{nothing_yet}

-- the counts, the words that are left, the first fault of names, and the number of the next mitigate
pub record State : Type 0 where
  pub counts : Counts
  pub words : List Told
  pub fault : Option ParseFault
  pub marks : ℕ

abbrev pub begin : List Told → State
begin words = record { counts = nothing_yet; words = words; fault = None; marks = 0 }

abbrev pub with_fault : State → Option ParseFault → State
with_fault s u = record { counts = s.counts; words = s.words; fault = u; marks = s.marks }

-- each token lies within the text
abbrev pub AreInside : List ℕ → List Token → Type 0
AreInside text [] = Unit {0}
AreInside text (t ∷ ts) = (t.from ≤ t.to) × (t.to ≤ length text) × AreInside text ts

-- tokens of the text, the last of which is the end
pub record AreSound (text : List ℕ) (tokens : List Token) : Type 0 where
  pub inside : AreInside text tokens
  pub proper : AreProper (told text tokens)
  pub ended : IsEnded (told text tokens)
  pub few : length tokens ≤ 2 ^ 31

abbrev pub with_marks : State → ℕ → State
with_marks s k = record { counts = s.counts; words = s.words; fault = s.fault; marks = k }
