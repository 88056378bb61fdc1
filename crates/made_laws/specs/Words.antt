-- The words that a text says.
use Rattle.std.specs.Prelude.{◌≡◌, ℕ, List, [], ◌∷◌, ◌++◌, map}
use Rattle.mit_syntax.specs.declared.token.Token.{Token}
use Rattle.mit_syntax.specs.declared.token.TokenKind.{TokenKind}
use Rattle.mit_syntax.specs.declared.token.TokenKind.TheVariants.{Key, Name, Number, Sign as SignKind}
use Rattle.mit_syntax.specs.Chunks.{Word, Chunk, space, line, word, key, sign, number, name, word_text}
use Rattle.mit_syntax.specs.Cut.{start, moved, end_at, AreTokens, token_bytes}

abbrev pub word_kind : Word → TokenKind
word_kind (key k) = Key k
word_kind (sign s) = SignKind s
word_kind (number n) = Number n
word_kind (name w) = Name

-- the words among chunks
abbrev pub words_of : List Chunk → List Word
words_of [] = []
words_of (space ∷ q) = words_of q
words_of (line ∷ q) = words_of q
words_of (word w ∷ q) = w ∷ words_of q

-- the text has tokens, and those before the end have the kinds and the bytes of these words
pub record HasWords (text : List ℕ) (words : List Word) : Type 0 where
  pub tokens : List Token
  pub are : AreTokens text (tokens ++ end_at (moved start text) ∷ [])
  pub say : map {B = TokenKind × List ℕ} (λ t. (t.kind, token_bytes text t)) tokens ≡ map (λ w. (word_kind w, word_text w)) words
