-- A text is cut into pieces, each as long as it can be. The tokens are those of the pieces, and then the end.
use Rattle.std.specs.Prelude.{◌≡◌, ℕ, ◌+◌, ◌-◌, ◌<◌, Bool, true, false, ◌&&◌, ◌==◌, if◌then◌else◌, List, [], ◌∷◌, ◌++◌, length, take, drop, Option, Some}
use Rattle.std.specs.Prelude.{None, IsUtf8}
use Rattle.std.specs.Str.{IsValidUpTo}
use Rattle.text_base.specs.declared.pos.Pos.{Pos}
use Rattle.label_lattice.specs.Names.{Each, IsWord, keywords, is_one_of}
use Rattle.mit_syntax.specs.declared.fault.TextFault.{TextFault}
use Rattle.mit_syntax.specs.declared.fault.TextFault.TheVariants.{NotUtf8, BadByte, WideNumber, LongName, Memory}
use Rattle.mit_syntax.specs.declared.token.Token.{Token}
use Rattle.mit_syntax.specs.declared.token.TokenKind.{TokenKind}
use Rattle.mit_syntax.specs.declared.token.TokenKind.TheVariants.{End}
use Rattle.mit_syntax.specs.declared.tokens.Place.{Place}
use Rattle.mit_syntax.specs.Lexemes.{is_white, StopsAt, Lexeme, IsDigits, value, max_number, HasKind, IsLongest}

-- the beginning of a text
abbrev pub start : Place
start = record { at = 0; pos = record { line = 1; column = 1 } }

-- the place behind a byte: a line ends at a line feed, and each other byte counts for one column
abbrev pub past : Place → ℕ → Place
past p b =
    if b == 10 then record { at = p.at + 1; pos = record { line = p.pos.line + 1; column = 1 } }
    else record { at = p.at + 1; pos = record { line = p.pos.line; column = p.pos.column + 1 } }

-- the place behind these bytes
abbrev pub moved : Place → List ℕ → Place
moved p [] = p
moved p (b ∷ r) = moved (past p b) r

abbrev pub in_line : ℕ → Bool
in_line b = if b == 10 then false else true

abbrev pub starts_comment : List ℕ → Bool
starts_comment [] = false
starts_comment (a ∷ []) = false
starts_comment (a ∷ b ∷ r) = (a == 47) && (b == 47)

pub data Piece : Type 0 where
  white : ℕ → Piece
  comment : List ℕ → Piece
  lexeme : List ℕ → TokenKind → Piece

abbrev pub bytes_of : Piece → List ℕ
bytes_of (white b) = b ∷ []
bytes_of (comment c) = c
bytes_of (lexeme w k) = w

-- A piece before what follows: a byte of white space; `//` and all up to the end of the line; or the longest
-- lexeme, where no comment begins.
abbrev pub IsPiece : Piece → List ℕ → Type 0
IsPiece (white b) rest = is_white b ≡ true
IsPiece (comment c) rest = (starts_comment c ≡ true) × Each in_line c × StopsAt in_line rest
IsPiece (lexeme w k) rest = (starts_comment (w ++ rest) ≡ false) × HasKind w k × IsLongest w rest

abbrev pub spread : List Piece → List ℕ
spread [] = []
spread (p ∷ ps) = bytes_of p ++ spread ps

-- each is a piece before those behind it and what follows them all
abbrev pub CutBefore : List Piece → List ℕ → Type 0
CutBefore [] rest = Unit {0}
CutBefore (p ∷ ps) rest = IsPiece p (spread ps ++ rest) × CutBefore ps rest

abbrev pub token_at : Place → Piece → Option Token
token_at p (white b) = None
token_at p (comment c) = None
token_at p (lexeme w k) = Some (record { kind = k; from = p.at; to = p.at + length w; pos = p.pos })

abbrev pub and_then : Option Token → List Token → List Token
and_then None l = l
and_then (Some t) l = t ∷ l

-- the tokens of pieces that begin at this place
abbrev pub tokens_of : Place → List Piece → List Token
tokens_of p [] = []
tokens_of p (x ∷ ps) = and_then (token_at p x) (tokens_of (moved p (bytes_of x)) ps)

-- the end of a text counts as a token without bytes
abbrev pub end_at : Place → Token
end_at p = record { kind = End; from = p.at; to = p.at; pos = p.pos }

-- these are the tokens of the text
pub record AreTokens (text : List ℕ) (tokens : List Token) : Type 0 where
  pub utf8 : IsUtf8 text
  pub pieces : List Piece
  pub are : text ≡ spread pieces
  pub cut : CutBefore pieces []
  pub tokens_are : tokens ≡ tokens_of start pieces ++ end_at (moved start text) ∷ []

-- the bytes of a token
abbrev pub token_bytes : List ℕ → Token → List ℕ
token_bytes text t = take (t.to - t.from) (drop t.from text)

-- no lexeme is at the front
abbrev pub BeginsNone : List ℕ → Type 0
BeginsNone text = (v r : List ℕ) → text ≡ v ++ r → Lexeme v → ⊥

-- the longest lexeme at the front is of this sort
pub record Begins (Is : List ℕ → Type 0) (text : List ℕ) : Type 0 where
  pub spelled : List ℕ
  pub rest : List ℕ
  pub are : text ≡ spelled ++ rest
  pub is : Is spelled
  pub longest : IsLongest spelled rest

-- a number above the limit is at the front
abbrev pub BeginsWide : List ℕ → Type 0
BeginsWide = Begins (λ w. IsDigits w × (max_number < value w))

-- a name above the limit is at the front
abbrev pub BeginsLong : List ℕ → Type 0
BeginsLong = Begins (λ w. IsWord w × (is_one_of keywords w ≡ false) × (32 < length w))

-- The text is cut into pieces up to this place, and there begin neither white space nor a comment, but something
-- of this sort.
pub record StopsBefore (Flawed : List ℕ → Type 0) (text : List ℕ) (pos : Pos) : Type 0 where
  pub utf8 : IsUtf8 text
  pub pieces : List Piece
  pub left : List ℕ
  pub are : text ≡ spread pieces ++ left
  pub cut : CutBefore pieces left
  pub pos_is : pos ≡ (moved start (spread pieces)).pos
  pub some : 0 < length left
  pub no_white : StopsAt is_white left
  pub no_comment : starts_comment left ≡ false
  pub flawed : Flawed left

-- When each fault is answered. `IsValidUpTo text n`: the first n bytes are UTF-8, and no longer front of the text is.
abbrev pub IsFault : List ℕ → TextFault → Type 0
IsFault text (NotUtf8 n) = IsValidUpTo text n
IsFault text (BadByte p) = StopsBefore BeginsNone text p
IsFault text (WideNumber p) = StopsBefore BeginsWide text p
IsFault text (LongName p) = StopsBefore BeginsLong text p
IsFault text Memory = Unit {0}
