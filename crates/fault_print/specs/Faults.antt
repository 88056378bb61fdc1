-- What is told of a fault of a text, behind the tool's own line.
use Rattle.std.specs.Prelude.{◌≡◌, ◌⊎◌, ℕ, ◌+◌, ◌-◌, ◌==◌, if◌then◌else◌, List, [], ◌∷◌, ◌++◌, length, take, drop, slice_get, Option, Some, None}
use Rattle.text_base.specs.declared.pos.Pos.{Pos}
use Rattle.mit_syntax.specs.declared.fault.TextFault.{TextFault}
use Rattle.mit_syntax.specs.declared.fault.TextFault.TheVariants as text
use Rattle.mit_syntax.specs.declared.token.Token.{Token}
use Rattle.mit_syntax.specs.Cut.{AreTokens, token_bytes}
use Rattle.mit_parser.specs.declared.fault.ParseFault.{ParseFault}
use Rattle.mit_parser.specs.declared.fault.ParseFault.TheVariants as parse
use Rattle.mit_parser.specs.Words.{told}
use Rattle.next_tokens.specs.declared.sort.Sort.{Sort}
use Rattle.next_tokens.specs.declared.sort.Sort.TheVariants.{End}
use Rattle.next_tokens.specs.Sorts.{sort_in}
use Rattle.next_tokens.specs.Following.{Reaches}
use Rattle.fault_print.specs.Marked.{marked, from_place, before_place}
use Rattle.fault_print.specs.Words.{expected_line, found_line, found_word, found_end, byte_text, word_front}
use Rattle.fault_print.specs.Traps.{trap_lines, token_trap, byte_trap}
use Rattle.fault_print.specs.Tokens.{sort_at, word_at, before_at}
use Rattle.fault_print.specs.Names.{name_lines}
use Rattle.fault_print.specs.Hints.{utf8_hint, wide_hint, long_hint, deep_hint, many_hint, twice_hint, size_hint, misuse_hint, lattice_hint}

-- ---- a token that can't stand at its place

-- what stands at a token's place
abbrev pub found_sort : Sort → List ℕ → List ℕ
found_sort End w = found_end
found_sort x w = found_word w

-- the mistake that the token with the number n shows, which has the sort x and the bytes w
abbrev pub trap_at : List ℕ → List Token → ℕ → Sort → List ℕ → List Sort → List ℕ
trap_at T ts n x w could =
    trap_lines (token_trap (sort_at (before_at ts n)) (word_at T (before_at ts n)) x w (sort_at (slice_get ts (n + 1))) could)

-- the token with the number n can't stand at its place, where these could
abbrev pub lines_at : List ℕ → List Token → ℕ → List Sort → Option Token → List ℕ
lines_at T ts n could None = []
lines_at T ts n could (Some t) =
    marked T t.pos ++ (found_sort (sort_in t.kind) (token_bytes T t) ++ (expected_line could
    ++ trap_at T ts n (sort_in t.kind) (token_bytes T t) could))

abbrev pub token_lines : List ℕ → List Token → ℕ → List Sort → List ℕ
token_lines T ts n could = lines_at T ts n could (slice_get ts n)

-- The tokens begin what the grammar allows up to one that can't stand at its place. Told are the line of the text with a mark
-- under that one, what stands there, what could stand there, and the mistake that this shows, if it shows one.
pub record TellsToken (T : List ℕ) (ts : List Token) (t : List ℕ) : Type 0 where
  pub taken : ℕ
  pub sorts : List Sort
  pub reaches : Reaches (told T ts) taken sorts
  pub lines : t ≡ token_lines T ts taken sorts

-- ---- a byte with which no word begins

-- all but the last one, which is the end
abbrev pub but_end : List Token → List Token
but_end ts = take (length ts - 1) ts

-- What could stand behind the text F, where that has tokens, and these begin what the grammar allows.
pub record Follow (F : List ℕ) (could : List Sort) : Type 0 where
  pub tokens : List Token
  pub cut : AreTokens F tokens
  pub taken : ℕ
  pub sorts : List Sort
  pub reaches : Reaches (told F (but_end tokens)) taken sorts
  pub are : could ≡ (if taken == length tokens - 1 then sorts else [])

abbrev pub CouldFollow : List ℕ → List Sort → Type 0
CouldFollow F could = Follow F could ⊎ (((ts : List Token) → AreTokens F ts → ⊥) × (could ≡ []))

-- what could stand at a place, if that is known
abbrev pub could_line : List Sort → List ℕ
could_line [] = []
could_line (x ∷ xs) = expected_line (x ∷ xs)

-- a byte that stands at the front, where these could
abbrev pub byte_lines : List ℕ → List Sort → List ℕ
byte_lines [] could = found_end
byte_lines (b ∷ r) could = found_line (byte_text b) ++ (could_line could ++ trap_lines (byte_trap b could))

pub record TellsByte (T : List ℕ) (p : Pos) (t : List ℕ) : Type 0 where
  pub could : List Sort
  pub follow : CouldFollow (before_place T p) could
  pub lines : t ≡ marked T p ++ byte_lines (from_place T p) could

-- ---- other faults

-- the byte with a number
abbrev pub byte_at : List ℕ → List ℕ
byte_at [] = found_end
byte_at (b ∷ r) = found_line (byte_text b)

-- the word that begins at a place
abbrev pub word_there : List ℕ → Pos → List ℕ
word_there T p = word_front (from_place T p)

-- a place, the word that stands there, and a sentence
abbrev pub place_lines : List ℕ → Pos → List ℕ → List ℕ
place_lines T p hint = marked T p ++ (found_word (word_there T p) ++ hint)

-- what is told of a text that has no tokens
abbrev pub TellsText : List ℕ → TextFault → List ℕ → Type 0
TellsText T (text.NotUtf8 n) t = t ≡ byte_at (drop n T) ++ utf8_hint
TellsText T (text.BadByte p) t = TellsByte T p t
TellsText T (text.WideNumber p) t = t ≡ place_lines T p wide_hint
TellsText T (text.LongName p) t = t ≡ place_lines T p (long_hint (length (word_there T p)))
TellsText T text.Memory t = t ≡ []

-- what is told of tokens that are no program
abbrev pub TellsTokens : List ℕ → List Token → ParseFault → List ℕ → Type 0
TellsTokens T ts (parse.Unexpected p) t = TellsToken T ts t
TellsTokens T ts (parse.TooDeep p) t = t ≡ marked T p ++ deep_hint
TellsTokens T ts (parse.TooMany n) t = t ≡ many_hint
TellsTokens T ts (parse.Unknown p) t = t ≡ place_lines T p (name_lines T ts (word_there T p) p)
TellsTokens T ts (parse.Twice p) t = t ≡ place_lines T p twice_hint
TellsTokens T ts (parse.Lattice f) t = t ≡ lattice_hint f
TellsTokens T ts parse.Memory t = t ≡ []
TellsTokens T ts (parse.Size p) t = t ≡ place_lines T p size_hint
TellsTokens T ts (parse.Misuse p) t = t ≡ place_lines T p misuse_hint
