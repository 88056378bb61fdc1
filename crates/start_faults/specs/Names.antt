-- What is told of a key that is unknown.
use Rattle.std.specs.Prelude.{ℕ, ◌-◌, ◌==◌, if◌then◌else◌, List, [], ◌∷◌, ◌++◌, Bool, true, false, Option, Some, None, option_map, codes, decimal}
use Rattle.toml.specs.Data.{Data, Members, get_member, get_item}
use Rattle.mit_syntax.specs.Declarations.{Declaration}
use Rattle.mit_syntax.specs.Program.{Syntax}
use Rattle.start_file.specs.declared.slot.Slot.{Slot}
use Rattle.start_file.specs.declared.version.Version.{Version}
use Rattle.start_file.specs.declared.version.Version.TheVariants.{One, Two}
use Rattle.start_file.specs.Tables.{items_in, members_in}
use Rattle.start_file.specs.Values.{slot_of, is_key}
use Rattle.fault_print.specs.Names.{is_near, listed}
use Rattle.start_faults.specs.Found.{word_text, at_line, has_key, key_lines, place_lines, first_unknown, table_in}
use Rattle.start_faults.specs.declared.keys.Keys.TheVariants.{Top, Run}

-- the second version, or the first one
abbrev pub version_if : Bool → Version
version_if true = Two
version_if false = One

-- the declared names that are near to w
abbrev pub near_names : List ℕ → List Declaration → List ℕ
near_names w [] = []
near_names w (d ∷ ds) = listed (is_near w d.0) d.0 ++ near_names w ds

unfoldable pub no_such_name : List ℕ
no_such_name = codes "no variable has such a name\n"

abbrev pub near_line : List ℕ → List ℕ
near_line [] = no_such_name
near_line (b ∷ r) = codes "nearest" ++ ((b ∷ r) ++ codes "\n")

-- the length of what a name declares, if that is an array
abbrev pub length_of : List Declaration → List ℕ → Option (Option ℕ)
length_of ds w = option_map (λ (s : Slot). s.length) (slot_of ds w)

-- a key of `memory`: it names nothing, or an array in a file of version 1
abbrev pub named_line : List Declaration → List ℕ → Option (Option ℕ) → List ℕ
named_line ds w None = near_line (near_names w ds)
named_line ds w (Some n) = codes "it is an array: the file has to begin with version = 2\n"

abbrev pub memory_lines : List Declaration → Option (List ℕ) → List ℕ
memory_lines ds None = []
memory_lines ds (Some w) = at_line (codes "memory." ++ word_text w) ++ named_line ds w (length_of ds w)

-- the first unknown key of a run, and else the first one of its memory
abbrev pub run_lines : List Declaration → Version → Members → Option (List ℕ) → List ℕ
run_lines ds v ms (Some k) = key_lines [] Run k
run_lines ds v ms None = memory_lines ds (first_unknown (λ w. is_key v (slot_of ds w)) (members_in (get_member (codes "memory") ms)))

abbrev pub run_told : List Declaration → Version → ℕ → Option Data → Option Members → List ℕ
run_told ds v n d None = place_lines (codes "run " ++ decimal n) d (codes "a table")
run_told ds v n d (Some ms) = run_lines ds v ms (first_unknown (has_key Run) ms)

abbrev pub run_key_lines : List Declaration → Version → ℕ → Option Data → List ℕ
run_key_lines ds v n d = run_told ds v n d (table_in d)

abbrev pub top_lines : Option (List ℕ) → List ℕ
top_lines None = []
top_lines (Some k) = key_lines [] Top k

-- the run with a number, from 1
abbrev pub run_at : Members → ℕ → Option Data
run_at ms n = get_item (n - 1) (items_in (get_member (codes "run") ms))

-- an unknown key of a run, or of the top level, which has the number 0
abbrev pub unknown_lines : List Declaration → Version → Members → ℕ → List ℕ
unknown_lines ds v ms n = if n == 0 then top_lines (first_unknown (has_key Top) ms) else run_key_lines ds v n (run_at ms n)
