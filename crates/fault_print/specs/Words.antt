-- What stands at a place, and what could stand there.
use Rattle.std.specs.Prelude.{ℕ, if◌then◌else◌, nat_lt, List, [], ◌∷◌, ◌++◌, length, take, codes, decimal}
use Rattle.label_lattice.specs.Names.{is_name_byte}
use Rattle.mit_syntax.specs.Lexemes.{key_text, sign_text}
use Rattle.next_tokens.specs.declared.sort.Sort.{Sort}
use Rattle.next_tokens.specs.declared.sort.Sort.TheVariants.{Key, Sign, Name, Number, End}
use Rattle.fault_print.specs.Marked.{is_shown}

-- how a sort of tokens is told: a word of the language as it is written
abbrev pub sort_text : Sort → List ℕ
sort_text Name = codes "NAME"
sort_text Number = codes "NUMBER"
sort_text End = codes "END"
sort_text (Key k) = key_text k
sort_text (Sign s) = sign_text s

abbrev pub sorts_text : List Sort → List ℕ
sorts_text [] = []
sorts_text (x ∷ xs) = codes " " ++ (sort_text x ++ sorts_text xs)

-- what could stand there
abbrev pub expected_line : List Sort → List ℕ
expected_line xs = codes "expected" ++ (sorts_text xs ++ codes "\n")

-- at most so many bytes of a word are told
abbrev pub most_word : ℕ
most_word = 40

abbrev pub short : List ℕ → List ℕ
short w = if nat_lt most_word (length w) then take most_word w ++ codes ".." else w

abbrev pub found_line : List ℕ → List ℕ
found_line w = codes "found " ++ (w ++ codes "\n")

-- a word that stands there, the end of the text, or a byte with which no word begins
abbrev pub found_word : List ℕ → List ℕ
found_word w = found_line (short w)

abbrev pub found_end : List ℕ
found_end = found_line (codes "END")

abbrev pub byte_text : ℕ → List ℕ
byte_text b = if is_shown b then b ∷ [] else codes "byte " ++ decimal b

-- the letters, digits and `_` at the front
abbrev pub word_front : List ℕ → List ℕ
word_front [] = []
word_front (b ∷ r) = if is_name_byte b then b ∷ word_front r else []
