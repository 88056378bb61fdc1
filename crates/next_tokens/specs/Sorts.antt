-- The sorts of tokens, and of words.
use Rattle.std.specs.Prelude.{ℕ, ◌==◌, Bool, true, false, is_some}
use Rattle.mit_syntax.specs.declared.token.TokenKind.{TokenKind}
use Rattle.mit_syntax.specs.declared.token.TokenKind.TheVariants as kind
use Rattle.mit_syntax.specs.declared.token.Keyword.{Keyword}
use Rattle.mit_syntax.specs.declared.token.Sign.{Sign as SignType}
use Rattle.mit_syntax.specs.Operators.{op_of}
use Rattle.mit_syntax.specs.Chunks.{key, sign, number, name}
use Rattle.mit_parser.specs.Words.{Symbol, word, the_end, key_code, sign_code}
use Rattle.mit_parser.specs.Operators.{of_rank}
use Rattle.next_tokens.specs.declared.sort.Sort.{Sort}
use Rattle.next_tokens.specs.declared.sort.Sort.TheVariants.{Key, Sign, Name, Number, End}

abbrev pub sort_in : TokenKind → Sort
sort_in (kind.Key k) = Key k
sort_in (kind.Sign s) = Sign s
sort_in kind.Name = Name
sort_in (kind.Number n) = Number
sort_in kind.End = End

-- the sort of a word
abbrev pub sort_of : Symbol → Sort
sort_of (word (key k)) = Key k
sort_of (word (sign s)) = Sign s
sort_of (word (number n)) = Number
sort_of (word (name w)) = Name
sort_of the_end = End

-- of a sort: whether it is this keyword, this sign, an operator of this rank, names, numbers or the end
abbrev pub has_key : Keyword → Sort → Bool
has_key k (Key j) = key_code j == key_code k
has_key k (Sign s) = false
has_key k Name = false
has_key k Number = false
has_key k End = false

abbrev pub has_sign : SignType → Sort → Bool
has_sign s (Key k) = false
has_sign s (Sign t) = sign_code t == sign_code s
has_sign s Name = false
has_sign s Number = false
has_sign s End = false

abbrev pub has_rank : ℕ → Sort → Bool
has_rank n (Key k) = false
has_rank n (Sign s) = is_some (of_rank n (op_of s))
has_rank n Name = false
has_rank n Number = false
has_rank n End = false

abbrev pub is_a_name : Sort → Bool
is_a_name (Key k) = false
is_a_name (Sign s) = false
is_a_name Name = true
is_a_name Number = false
is_a_name End = false

abbrev pub is_a_number : Sort → Bool
is_a_number (Key k) = false
is_a_number (Sign s) = false
is_a_number Name = false
is_a_number Number = true
is_a_number End = false

abbrev pub is_the_end : Sort → Bool
is_the_end (Key k) = false
is_the_end (Sign s) = false
is_the_end Name = false
is_the_end Number = false
is_the_end End = true
