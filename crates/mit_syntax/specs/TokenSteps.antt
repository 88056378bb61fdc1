-- What the functions that make tokens say of their steps. No definition rests on this page: a reader of the contract
-- of `tokens` needn't know it.
use Rattle.std.specs.Prelude.{◌≡◌, ℕ, ◌<◌, Bool, false, ◌==◌, if◌then◌else◌, List, [], ◌∷◌, ◌++◌, length, Option, Some, None}
use Rattle.text_base.specs.declared.pos.Pos.{Pos}
use Rattle.mit_syntax.specs.declared.fault.TextFault.{TextFault}
use Rattle.mit_syntax.specs.declared.fault.TextFault.TheVariants.{NotUtf8, BadByte, WideNumber, LongName, Memory}
use Rattle.mit_syntax.specs.declared.lexeme.Flaw.{Flaw}
use Rattle.mit_syntax.specs.declared.lexeme.Flaw.TheVariants.{Bad, Wide, Long}
use Rattle.mit_syntax.specs.declared.token.Sign.{Sign}
use Rattle.mit_syntax.specs.declared.token.Sign.TheVariants.{Assign, Colon, Semicolon, Comma, LeftRound, RightRound, LeftBrace, RightBrace, LeftSquare}
use Rattle.mit_syntax.specs.declared.token.Sign.TheVariants.{RightSquare, At, Plus, Minus, Star, Slash, Percent, Equal, NotEqual, LessEqual, Less}
use Rattle.mit_syntax.specs.declared.token.Sign.TheVariants.{GreaterEqual, Greater}
use Rattle.mit_syntax.specs.declared.token.Token.{Token}
use Rattle.mit_syntax.specs.declared.token.TokenKind.{TokenKind}
use Rattle.mit_syntax.specs.declared.tokens.Place.{Place}
use Rattle.mit_syntax.specs.Lexemes.{is_white, StopsAt, HasKind, IsLongest}
use Rattle.mit_syntax.specs.Cut.{start, moved, starts_comment, Piece, bytes_of, IsPiece, spread, CutBefore, token_at, tokens_of, BeginsNone, BeginsWide}
use Rattle.mit_syntax.specs.Cut.{BeginsLong}

-- the token at the front, of n bytes
pub record IsToken (text : List ℕ) (kind : TokenKind) (n : ℕ) : Type 0 where
  pub spelled : List ℕ
  pub rest : List ℕ
  pub are : text ≡ spelled ++ rest
  pub size : length spelled ≡ n
  pub has_kind : HasKind spelled kind
  pub longest : IsLongest spelled rest

abbrev pub HasFlaw : List ℕ → Flaw → Type 0
HasFlaw text Bad = BeginsNone text
HasFlaw text Wide = BeginsWide text
HasFlaw text Long = BeginsLong text

abbrev pub second_is_equal : List ℕ → Bool
second_is_equal [] = false
second_is_equal (a ∷ []) = false
second_is_equal (a ∷ b ∷ r) = b == 61

-- the sign that the code takes for a first byte, and its length; e: `=` follows
abbrev pub sign_front : ℕ → Bool → Option (Sign × ℕ)
sign_front b e =
    if b == 58 then (if e then Some (Assign, 2) else Some (Colon, 1))
    else (if b == 60 then (if e then Some (LessEqual, 2) else Some (Less, 1))
    else (if b == 62 then (if e then Some (GreaterEqual, 2) else Some (Greater, 1))
    else (if b == 61 then (if e then Some (Equal, 2) else None)
    else (if b == 33 then (if e then Some (NotEqual, 2) else None)
    else (if b == 59 then Some (Semicolon, 1)
    else (if b == 44 then Some (Comma, 1)
    else (if b == 40 then Some (LeftRound, 1)
    else (if b == 41 then Some (RightRound, 1)
    else (if b == 123 then Some (LeftBrace, 1)
    else (if b == 125 then Some (RightBrace, 1)
    else (if b == 91 then Some (LeftSquare, 1)
    else (if b == 93 then Some (RightSquare, 1)
    else (if b == 64 then Some (At, 1)
    else (if b == 43 then Some (Plus, 1)
    else (if b == 45 then Some (Minus, 1)
    else (if b == 42 then Some (Star, 1)
    else (if b == 47 then Some (Slash, 1)
    else (if b == 37 then Some (Percent, 1)
    else None))))))))))))))))))

-- the place, and the bytes that are left
abbrev pub State : Type 0
State = Place × List ℕ

pub record TookPiece (old new : State) (o : Option Token) : Type 0 where
  pub piece : Piece
  pub was : old.1 ≡ bytes_of piece ++ new.1
  pub is : IsPiece piece new.1
  pub place_is : new.0 ≡ moved old.0 (bytes_of piece)
  pub gives : token_at old.0 piece ≡ o
  pub shorter : length new.1 < length old.1

pub record StandsAtFlaw (old : State) (flaw : Flaw) (pos : Pos) : Type 0 where
  pub here : pos ≡ old.0.pos
  pub some : 0 < length old.1
  pub no_white : StopsAt is_white old.1
  pub no_comment : starts_comment old.1 ≡ false
  pub flaw_is : HasFlaw old.1 flaw

abbrev pub NoPiece : State → TextFault → Type 0
NoPiece old (NotUtf8 n) = ⊥
NoPiece old (BadByte p) = StandsAtFlaw old Bad p
NoPiece old (WideNumber p) = StandsAtFlaw old Wide p
NoPiece old (LongName p) = StandsAtFlaw old Long p
NoPiece old Memory = ⊥

-- as far as the text was cut: whatever pieces follow
pub record CutSoFar (text : List ℕ) (now : State) (list : List Token) : Type 0 where
  pub builds : (ps : List Piece) (rest : List ℕ) → now.1 ≡ spread ps ++ rest → CutBefore ps rest
      → (qs : List Piece) × (text ≡ spread qs ++ rest) × CutBefore qs rest × (tokens_of start qs ≡ list ++ tokens_of now.0 ps)
      × (moved start (spread qs) ≡ moved now.0 (spread ps))
