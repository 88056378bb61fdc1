-- A text as chunks, from which its bytes are read off.
use Rattle.std.specs.Prelude.{ℕ, ℤ, List, [], ◌∷◌, ◌++◌}
use Rattle.std.specs.Fmt.{signed_decimal}
use Rattle.mit_syntax.specs.declared.token.Keyword.{Keyword}
use Rattle.mit_syntax.specs.declared.token.Sign.{Sign}
use Rattle.mit_syntax.specs.Lexemes.{key_text, sign_text}

-- what a token says, without its place: a name has its bytes
pub data Word : Type 0 where
  key : Keyword → Word
  sign : Sign → Word
  number : ℤ → Word
  name : List ℕ → Word

pub data Chunk : Type 0 where
  space : Chunk
  line : Chunk
  word : Word → Chunk

abbrev pub word_text : Word → List ℕ
word_text (key k) = key_text k
word_text (sign s) = sign_text s
word_text (number n) = signed_decimal n
word_text (name w) = w

abbrev pub chunk_text : Chunk → List ℕ
chunk_text space = 32 ∷ []
chunk_text line = 10 ∷ []
chunk_text (word w) = word_text w

-- the bytes of chunks
abbrev pub text : List Chunk → List ℕ
text [] = []
text (c ∷ q) = chunk_text c ++ text q
