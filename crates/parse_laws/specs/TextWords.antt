-- The words of a text, by its pieces alone: without tokens and positions.
use Rattle.std.specs.Prelude.{◌≡◌, ℕ, List, [], ◌∷◌, IsUtf8}
use Rattle.mit_syntax.specs.Cut.{Piece, white, comment, lexeme, spread, CutBefore}
use Rattle.mit_parser.specs.Words.{Symbol, the_end, symbol_of}

-- what the lexemes of pieces say, and then the end
abbrev pub words_in : List Piece → List Symbol
words_in [] = the_end ∷ []
words_in (white b ∷ ps) = words_in ps
words_in (comment c ∷ ps) = words_in ps
words_in (lexeme w k ∷ ps) = symbol_of k w ∷ words_in ps

-- these are the words of the text
pub record AreWords (text : List ℕ) (words : List Symbol) : Type 0 where
  pub utf8 : IsUtf8 text
  pub pieces : List Piece
  pub are : text ≡ spread pieces
  pub cut : CutBefore pieces []
  pub said : words ≡ words_in pieces
