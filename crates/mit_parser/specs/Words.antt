-- The words of a text: what its tokens say, each with its position. The last one is the end.
use Rattle.std.specs.Prelude.{◌≡◌, ℕ, Bool, true, false, ◌==◌, List, [], ◌∷◌}
use Rattle.text_base.specs.declared.pos.Pos.{Pos}
use Rattle.label_lattice.specs.Names.{IsName}
use Rattle.mit_syntax.specs.declared.token.Token.{Token}
use Rattle.mit_syntax.specs.declared.token.TokenKind.{TokenKind}
use Rattle.mit_syntax.specs.declared.token.TokenKind.TheVariants.{Key, Name, Number, Sign as SignKind, End}
use Rattle.mit_syntax.specs.declared.token.Keyword.{Keyword}
use Rattle.mit_syntax.specs.declared.token.Keyword.TheVariants.{Labels, Order, Var, Skip, If, Then, Else, While, Do, Mitigate, Sleep}
use Rattle.mit_syntax.specs.declared.token.Sign.{Sign}
use Rattle.mit_syntax.specs.declared.token.Sign.TheVariants.{Assign, Colon, Semicolon, Comma, LeftRound, RightRound, LeftBrace, RightBrace, LeftSquare}
use Rattle.mit_syntax.specs.declared.token.Sign.TheVariants.{RightSquare, At, Plus, Minus, Star, Slash, Percent, Equal, NotEqual, LessEqual, Less}
use Rattle.mit_syntax.specs.declared.token.Sign.TheVariants.{GreaterEqual, Greater}
use Rattle.mit_syntax.specs.Chunks.{Word, key, sign, number, name}
use Rattle.mit_syntax.specs.Cut.{token_bytes}
use Rattle.mit_syntax.specs.Valid.{IsNatural}

pub data Symbol : Type 0 where
  word : Word → Symbol
  the_end : Symbol

pub record Told : Type 0 where
  pub symbol : Symbol
  pub pos : Pos

-- what a token of this kind with these bytes says
abbrev pub symbol_of : TokenKind → List ℕ → Symbol
symbol_of (Key k) w = word (key k)
symbol_of Name w = word (name w)
symbol_of (Number n) w = word (number n)
symbol_of (SignKind s) w = word (sign s)
symbol_of End w = the_end

-- the words of tokens of a text
abbrev pub told : List ℕ → List Token → List Told
told text [] = []
told text (t ∷ ts) = record { symbol = symbol_of t.kind (token_bytes text t); pos = t.pos } ∷ told text ts

abbrev pub kind_of : Symbol → TokenKind
kind_of (word (key k)) = Key k
kind_of (word (sign s)) = SignKind s
kind_of (word (number n)) = Number n
kind_of (word (name w)) = Name
kind_of the_end = End

abbrev pub sign_at : Sign → Pos → Told
sign_at s p = record { symbol = word (sign s); pos = p }

abbrev pub key_at : Keyword → Pos → Told
key_at k p = record { symbol = word (key k); pos = p }

abbrev pub name_at : List ℕ → Pos → Told
name_at w p = record { symbol = word (name w); pos = p }

abbrev pub end_at : Pos → Told
end_at p = record { symbol = the_end; pos = p }

-- the first word, and where it stands
abbrev pub head_symbol : List Told → Symbol
head_symbol [] = the_end
head_symbol (b ∷ r) = b.symbol

abbrev pub first_pos : List Told → Pos
first_pos [] = record { line = 0; column = 0 }
first_pos (b ∷ r) = b.pos

-- numbers and names are within their limits
abbrev pub IsProperSymbol : Symbol → Type 0
IsProperSymbol (word (key k)) = Unit {0}
IsProperSymbol (word (sign s)) = Unit {0}
IsProperSymbol (word (number n)) = IsNatural n
IsProperSymbol (word (name w)) = IsName w
IsProperSymbol the_end = Unit {0}

abbrev pub AreProper : List Told → Type 0
AreProper [] = Unit {0}
AreProper (b ∷ r) = IsProperSymbol b.symbol × AreProper r

abbrev pub sign_code : Sign → ℕ
sign_code Assign = 0
sign_code Colon = 1
sign_code Semicolon = 2
sign_code Comma = 3
sign_code LeftRound = 4
sign_code RightRound = 5
sign_code LeftBrace = 6
sign_code RightBrace = 7
sign_code LeftSquare = 8
sign_code RightSquare = 9
sign_code At = 10
sign_code Plus = 11
sign_code Minus = 12
sign_code Star = 13
sign_code Slash = 14
sign_code Percent = 15
sign_code Equal = 16
sign_code NotEqual = 17
sign_code LessEqual = 18
sign_code Less = 19
sign_code GreaterEqual = 20
sign_code Greater = 21

abbrev pub key_code : Keyword → ℕ
key_code Labels = 0
key_code Order = 1
key_code Var = 2
key_code Skip = 3
key_code If = 4
key_code Then = 5
key_code Else = 6
key_code While = 7
key_code Do = 8
key_code Mitigate = 9
key_code Sleep = 10

abbrev pub is_sign : Sign → Symbol → Bool
is_sign s (word (key k)) = false
is_sign s (word (sign t)) = sign_code t == sign_code s
is_sign s (word (number n)) = false
is_sign s (word (name w)) = false
is_sign s the_end = false

abbrev pub is_key : Keyword → Symbol → Bool
is_key k (word (key j)) = key_code j == key_code k
is_key k (word (sign s)) = false
is_key k (word (number n)) = false
is_key k (word (name w)) = false
is_key k the_end = false

abbrev pub is_end : Symbol → Bool
is_end (word w) = false
is_end the_end = true

-- the symbol is this keyword, this sign or the end
abbrev pub is : Symbol → Symbol → Bool
is (word (key k)) b = is_key k b
is (word (sign s)) b = is_sign s b
is (word (number n)) b = false
is (word (name w)) b = false
is the_end b = is_end b

-- only the last word is the end
abbrev pub IsEnded : List Told → Type 0
IsEnded [] = ⊥
IsEnded (b ∷ []) = is_end b.symbol ≡ true
IsEnded (b ∷ c ∷ r) = (is_end b.symbol ≡ false) × IsEnded (c ∷ r)
