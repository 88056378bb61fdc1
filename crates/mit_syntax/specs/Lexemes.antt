-- The spellings of tokens.
use Rattle.std.specs.Prelude.{◌≡◌, ℕ, pos, ◌+◌, ◌-◌, ◌*◌, ◌≤◌, Bool, true, false, ◌||◌, ◌==◌, List, [], ◌∷◌, ◌++◌, length, codes}
use Rattle.std.specs.Char.{is_ascii_digit}
use Rattle.label_lattice.specs.Names.{Each, IsWord, IsName}
use Rattle.mit_syntax.specs.declared.token.Keyword.{Keyword}
use Rattle.mit_syntax.specs.declared.token.Keyword.TheVariants.{Labels, Order, Var, Skip, If, Then, Else, While, Do, Mitigate, Sleep}
use Rattle.mit_syntax.specs.declared.token.Sign.{Sign}
use Rattle.mit_syntax.specs.declared.token.Sign.TheVariants.{Assign, Colon, Semicolon, Comma, LeftRound, RightRound, LeftBrace, RightBrace, LeftSquare}
use Rattle.mit_syntax.specs.declared.token.Sign.TheVariants.{RightSquare, At, Plus, Minus, Star, Slash, Percent, Equal, NotEqual, LessEqual, Less}
use Rattle.mit_syntax.specs.declared.token.Sign.TheVariants.{GreaterEqual, Greater}
use Rattle.mit_syntax.specs.declared.token.TokenKind.{TokenKind}
use Rattle.mit_syntax.specs.declared.token.TokenKind.TheVariants.{Key, Name, Number, Sign as SignKind, End}

-- space, tab, carriage return or line feed
abbrev pub is_white : ℕ → Bool
is_white b = (b == 32) || ((b == 9) || ((b == 13) || (b == 10)))

-- the first byte fails, if there is one
abbrev pub StopsAt : (ℕ → Bool) → List ℕ → Type 0
StopsAt p [] = Unit {0}
StopsAt p (x ∷ xs) = p x ≡ false

abbrev pub key_text : Keyword → List ℕ
key_text Labels = codes "labels"
key_text Order = codes "order"
key_text Var = codes "var"
key_text Skip = codes "skip"
key_text If = codes "if"
key_text Then = codes "then"
key_text Else = codes "else"
key_text While = codes "while"
key_text Do = codes "do"
key_text Mitigate = codes "mitigate"
key_text Sleep = codes "sleep"

abbrev pub sign_text : Sign → List ℕ
sign_text Assign = 58 ∷ 61 ∷ []
sign_text Colon = 58 ∷ []
sign_text Semicolon = 59 ∷ []
sign_text Comma = 44 ∷ []
sign_text LeftRound = 40 ∷ []
sign_text RightRound = 41 ∷ []
sign_text LeftBrace = 123 ∷ []
sign_text RightBrace = 125 ∷ []
sign_text LeftSquare = 91 ∷ []
sign_text RightSquare = 93 ∷ []
sign_text At = 64 ∷ []
sign_text Plus = 43 ∷ []
sign_text Minus = 45 ∷ []
sign_text Star = 42 ∷ []
sign_text Slash = 47 ∷ []
sign_text Percent = 37 ∷ []
sign_text Equal = 61 ∷ 61 ∷ []
sign_text NotEqual = 33 ∷ 61 ∷ []
sign_text LessEqual = 60 ∷ 61 ∷ []
sign_text Less = 60 ∷ []
sign_text GreaterEqual = 62 ∷ 61 ∷ []
sign_text Greater = 62 ∷ []

-- one or more digits, of any value
abbrev pub IsDigits : List ℕ → Type 0
IsDigits [] = ⊥
IsDigits (b ∷ r) = (is_ascii_digit b ≡ true) × Each is_ascii_digit r

-- what may be taken for a token, before the limits
pub data Lexeme : List ℕ → Type 0 where
  word : {w : List ℕ} → IsWord w → Lexeme w
  digits : {w : List ℕ} → IsDigits w → Lexeme w
  sign : (s : Sign) → Lexeme (sign_text s)

-- the value of digits, the first of which counts most
abbrev pub value_after : ℕ → List ℕ → ℕ
value_after n [] = n
value_after n (b ∷ r) = value_after (10 * n + (b - 48)) r

abbrev pub value : List ℕ → ℕ
value w = value_after 0 w

abbrev pub max_number : ℕ
max_number = 9223372036854775807

-- the bytes spell a token of this kind, within the limits
abbrev pub HasKind : List ℕ → TokenKind → Type 0
HasKind w (Key k) = w ≡ key_text k
HasKind w Name = IsName w
HasKind w (Number n) = IsDigits w × (n ≡ pos (value w)) × (value w ≤ max_number)
HasKind w (SignKind s) = w ≡ sign_text s
HasKind w End = ⊥

-- tokens are taken as long as possible: no longer lexeme stands at the front
abbrev pub IsLongest : List ℕ → List ℕ → Type 0
IsLongest w rest = (v r : List ℕ) → w ++ rest ≡ v ++ r → Lexeme v → length v ≤ length w
