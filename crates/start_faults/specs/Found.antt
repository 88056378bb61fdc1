-- The places of a start file, and what stands there.
use Rattle.std.specs.Prelude.{ℕ, Bool, true, false, nat_lt, List, [], ◌++◌, length, map, take, Option, Some, None, if◌then◌else◌, codes, decimal}
use Rattle.std.specs.Fmt.{signed_decimal}
use Rattle.toml.specs.Data.{Data, string, integer, float, boolean, datetime, array, table, Items, Members, no_members, member}
use Rattle.start_file.specs.Tables.{count_items}
use Rattle.fault_print.specs.Marked.{shown}
use Rattle.start_file.specs.Starts.{is_run_key, is_top_key}
use Rattle.start_file.specs.Touches.{is_touch_key}
use Rattle.start_faults.specs.declared.keys.Keys.{Keys}
use Rattle.start_faults.specs.declared.keys.Keys.TheVariants.{Top, Run, Touch}

-- a word of the file: at most 40 of its bytes, and `?` for one that can't be shown
abbrev pub most_word : ℕ
most_word = 40

abbrev pub word_text : List ℕ → List ℕ
word_text w = if nat_lt most_word (length w) then map shown (take most_word w) ++ codes ".." else map shown w

unfoldable pub array_of : List ℕ
array_of = codes "an array of "

-- a value: a number as it is, and else what it is
abbrev pub value_text : Data → List ℕ
value_text (string w) = codes "\"" ++ (word_text w ++ codes "\"")
value_text (integer z) = signed_decimal z
value_text (float x) = codes "a float"
value_text (boolean true) = codes "true"
value_text (boolean false) = codes "false"
value_text (datetime dt) = codes "a date"
value_text (array ds) = array_of ++ decimal (count_items ds)
value_text (table ms) = codes "a table"

-- a value that may be missing
abbrev pub found_text : Option Data → List ℕ
found_text None = codes "nothing"
found_text (Some d) = value_text d

-- the members of a table, and the items of an array, where a value is one
abbrev pub table_in : Option Data → Option Members
table_in (Some (table ms)) = Some ms
table_in d = None

abbrev pub array_in : Option Data → Option Items
array_in (Some (array ds)) = Some ds
array_in d = None

abbrev pub at_line : List ℕ → List ℕ
at_line place = codes "at " ++ (place ++ codes "\n")

abbrev pub found_line : Option Data → List ℕ
found_line d = codes "found " ++ (found_text d ++ codes "\n")

abbrev pub expected_line : List ℕ → List ℕ
expected_line wanted = codes "expected " ++ (wanted ++ codes "\n")

-- a place, what stands there, and what has to stand there
abbrev pub place_lines : List ℕ → Option Data → List ℕ → List ℕ
place_lines place d wanted = at_line place ++ (found_line d ++ expected_line wanted)

-- the keys of the top level, of a run and of a touch
abbrev pub has_key : Keys → List ℕ → Bool
has_key Top w = is_top_key w
has_key Run w = is_run_key w
has_key Touch w = is_touch_key w

abbrev pub keys_text : Keys → List ℕ
keys_text Top = codes "run version"
keys_text Run = codes "memory touch"
keys_text Touch = codes "place label address"

-- a key that is none of these, behind what its place begins with
abbrev pub key_lines : List ℕ → Keys → List ℕ → List ℕ
key_lines front keys k = at_line (front ++ word_text k) ++ expected_line (keys_text keys)

-- the first key that does not pass a test, in the order of the keys' bytes
abbrev pub first_unknown : (List ℕ → Bool) → Members → Option (List ℕ)
first_unknown test no_members = None
first_unknown test (member k d ms) = if test k then first_unknown test ms else Some k
