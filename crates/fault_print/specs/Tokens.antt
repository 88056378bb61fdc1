-- The sort and the bytes of a token of a list.
use Rattle.std.specs.Prelude.{ℕ, ◌-◌, if◌then◌else◌, nat_lt, List, [], slice_get, Option, Some, None}
use Rattle.mit_syntax.specs.declared.token.Token.{Token}
use Rattle.mit_syntax.specs.Cut.{token_bytes}
use Rattle.next_tokens.specs.declared.sort.Sort.{Sort}
use Rattle.next_tokens.specs.declared.sort.Sort.TheVariants.{End}
use Rattle.next_tokens.specs.Sorts.{sort_in}

-- the sort and the bytes of a token, where there is one
abbrev pub sort_at : Option Token → Sort
sort_at None = End
sort_at (Some t) = sort_in t.kind

abbrev pub word_at : List ℕ → Option Token → List ℕ
word_at T None = []
word_at T (Some t) = token_bytes T t

-- the token before the one with the number n
abbrev pub before_at : List Token → ℕ → Option Token
before_at ts n = if nat_lt 0 n then slice_get ts (n - 1) else None
