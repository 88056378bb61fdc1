-- What is told of a value that is no number.
use Rattle.std.specs.Prelude.{ℕ, ◌+◌, if◌then◌else◌, nat_le, List, ◌++◌, [], Option, Some, None, codes, decimal}
use Rattle.toml.specs.Data.{Data, Items, no_items, item, Members, no_members, member, array, table}
use Rattle.mit_syntax.specs.Declarations.{Declaration}
use Rattle.start_file.specs.Tables.{count_items}
use Rattle.start_file.specs.Values.{slot_of, is_value, is_integer}
use Rattle.start_faults.specs.Found.{word_text, place_lines}
use Rattle.start_faults.specs.Names.{length_of}

unfoldable pub number_wanted : List ℕ
number_wanted = codes "an integer from -9223372036854775808 to 9223372036854775807"

unfoldable pub at_most : List ℕ
at_most = codes "an array of at most "

abbrev pub array_wanted : ℕ → List ℕ
array_wanted n = at_most ++ (decimal n ++ codes " integers")

abbrev pub memory_place : List ℕ → List ℕ
memory_place w = codes "memory." ++ word_text w

abbrev pub element_place : List ℕ → ℕ → List ℕ
element_place w i = memory_place w ++ (codes "[" ++ (decimal i ++ codes "]"))

-- the first name whose value is none, in the order of the names' bytes, with the value
abbrev pub first_wrong : List Declaration → Members → Option (List ℕ × Data)
first_wrong ds no_members = None
first_wrong ds (member w d ms) = if is_value (slot_of ds w) d then first_wrong ds ms else Some (w, d)

-- the first element that is no integer, behind i others
abbrev pub element_lines : List ℕ → ℕ → Items → List ℕ
element_lines w i no_items = []
element_lines w i (item d ds) = if is_integer d then element_lines w (i + 1) ds else place_lines (element_place w i) (Some d) number_wanted

-- the elements of an array that is not too long
abbrev pub elements_in : ℕ → Data → Option Items
elements_in n (array ds) = if nat_le (count_items ds) n then Some ds else None
elements_in n d = None

-- what has at most n elements is no such array, or one of these elements is no integer
abbrev pub array_lines : List ℕ → ℕ → Data → Option Items → List ℕ
array_lines w n d None = place_lines (memory_place w) (Some d) (array_wanted n)
array_lines w n d (Some ds) = element_lines w 0 ds

abbrev pub filling_lines : List ℕ → Option ℕ → Data → List ℕ
filling_lines w None d = place_lines (memory_place w) (Some d) number_wanted
filling_lines w (Some n) d = array_lines w n d (elements_in n d)

abbrev pub declared_lines : List ℕ → Data → Option (Option ℕ) → List ℕ
declared_lines w d None = []
declared_lines w d (Some n) = filling_lines w n d

abbrev pub value_lines : List Declaration → Option (List ℕ × Data) → List ℕ
value_lines ds None = []
value_lines ds (Some e) = declared_lines e.0 e.1 (length_of ds e.0)

-- the memory of a run
abbrev pub number_lines : List Declaration → Option Data → List ℕ
number_lines ds (Some (table ms)) = value_lines ds (first_wrong ds ms)
number_lines ds d = place_lines (codes "memory") d (codes "a table")
