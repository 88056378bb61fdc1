-- A file whose text spells a program, by the grammar alone.
use Rattle.std.specs.Prelude.{◌≤◌, ℕ, List, Option, length}
use Rattle.tim_base.specs.Told.{limit, IsTold}
use Rattle.mit_syntax.specs.Program.{Syntax}
use Rattle.mit_parser.specs.Words.{Symbol}
use Rattle.parse_laws.specs.TextWords.{AreWords}
use Rattle.parse_laws.specs.Grammar.{IsSpelt}

-- the words of the file's text spell the program
pub record TextSpells (content : Option (Option (List ℕ))) (p : Syntax) : Type 0 where
  pub bytes : List ℕ
  pub are : IsTold content bytes
  pub short : length bytes ≤ limit
  pub words : List Symbol
  pub cut : AreWords bytes words
  pub spelt : IsSpelt words p
