-- What can stand behind words, by the grammar.
use Rattle.std.specs.Prelude.{◌≡◌, ℕ, ◌+◌, ◌<◌, ◌≤◌, List, [], ◌∷◌, ◌++◌, length, take, ◌⊎◌}
use Rattle.mit_syntax.specs.declared.token.Keyword.TheVariants.{Labels, Order, Var, Skip, If, Then, Else, While, Do, Mitigate, Sleep}
use Rattle.mit_syntax.specs.declared.token.Sign.TheVariants.{Assign, Colon, Semicolon, Comma, LeftRound, RightRound, LeftBrace, RightBrace, LeftSquare}
use Rattle.mit_syntax.specs.declared.token.Sign.TheVariants.{RightSquare, At, Plus, Minus, Star, Slash, Percent, Equal, NotEqual, LessEqual, Less}
use Rattle.mit_syntax.specs.declared.token.Sign.TheVariants.{GreaterEqual, Greater}
use Rattle.mit_parser.specs.Words.{Told}
use Rattle.mit_parser.specs.Spells.{Begins}
use Rattle.next_tokens.specs.declared.sort.Sort.{Sort}
use Rattle.next_tokens.specs.declared.sort.Sort.TheVariants.{Key, Sign, Name, Number, End}
use Rattle.next_tokens.specs.Sorts.{sort_of}

-- the sort is one of these
abbrev pub IsOneOf : List Sort → Sort → Type 0
IsOneOf [] x = ⊥
IsOneOf (y ∷ ys) x = (x ≡ y) ⊎ IsOneOf ys x

-- these are some of those, in their order
abbrev pub AreSomeOf : List Sort → List Sort → Type 0
AreSomeOf [] those = Unit {0}
AreSomeOf (x ∷ xs) [] = ⊥
AreSomeOf (x ∷ xs) (y ∷ ys) = ((x ≡ y) × AreSomeOf xs ys) ⊎ AreSomeOf (x ∷ xs) ys

-- all sorts, in the order in which they are told
abbrev pub all_sorts : List Sort
all_sorts =
    Name ∷ Number ∷ Key Labels ∷ Key Order ∷ Key Var ∷ Key Skip ∷ Key If ∷ Key Then ∷ Key Else ∷ Key While ∷ Key Do ∷ Key Mitigate ∷ Key Sleep
    ∷ Sign Assign ∷ Sign Colon ∷ Sign Semicolon ∷ Sign Comma ∷ Sign LeftRound ∷ Sign RightRound ∷ Sign LeftBrace ∷ Sign RightBrace ∷ Sign LeftSquare
    ∷ Sign RightSquare ∷ Sign At ∷ Sign Plus ∷ Sign Minus ∷ Sign Star ∷ Sign Slash ∷ Sign Percent ∷ Sign Equal ∷ Sign NotEqual ∷ Sign Less
    ∷ Sign LessEqual ∷ Sign Greater ∷ Sign GreaterEqual ∷ End ∷ []

-- A word is of one of these sorts if and only if the words before it, with it, are the beginning of words that the grammar
-- allows. The sorts are told in the order of all, each once.
pub record AreNext (before : List Told) (sorts : List Sort) : Type 0 where
  pub only : (b : Told) → IsOneOf sorts (sort_of b.symbol) → Begins (before ++ b ∷ [])
  pub all : (b : Told) → Begins (before ++ b ∷ []) → IsOneOf sorts (sort_of b.symbol)
  pub order : AreSomeOf sorts all_sorts

-- So many of the words begin what the grammar allows, and with the next one, if there is one, they don't. These sorts can
-- stand there.
pub record Reaches (words : List Told) (taken : ℕ) (sorts : List Sort) : Type 0 where
  pub within : taken ≤ length words
  pub begins : Begins (take taken words)
  pub ends : taken < length words → Begins (take (taken + 1) words) → ⊥
  pub next : AreNext (take taken words) sorts
