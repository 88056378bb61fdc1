-- The values that a run's `memory` gives the variables.
use Rattle.std.specs.Prelude.{ℕ, zero, suc, ℤ, pos, ◌&&◌, ◌++◌, nat_le, Bool, true, false, List, [], ◌∷◌, Option, None, Some, option_map}
use Rattle.toml.specs.Data.{Data, Items, no_items, item, Members, no_members, member, get_member, integer, array, table}
use Rattle.mit_syntax.specs.Declarations.{Declaration, declared}
use Rattle.start_file.specs.declared.slot.Slot.{Slot}
use Rattle.start_file.specs.declared.version.Version.{Version}
use Rattle.start_file.specs.Tables.{keys_pass, count_items, items_in}
use Rattle.start_file.specs.Versions.{is_two}

-- the number of the first variable that a name declares, and the length of an array
abbrev pub slot_of : List Declaration → List ℕ → Option Slot
slot_of ds w = option_map (λ r. record { first = r.0; length = r.1.length }) (declared ds w)

-- a key of `memory` is the name of a scalar or, in version 2, that of an array
abbrev pub may_name : Version → Option ℕ → Bool
may_name v None = true
may_name v (Some n) = is_two v

abbrev pub is_key : Version → Option Slot → Bool
is_key v None = false
is_key v (Some s) = may_name v s.length

abbrev pub names_pass : Version → List Declaration → Option Data → Bool
names_pass v ds (Some (table ms)) = keys_pass (λ w. is_key v (slot_of ds w)) ms
names_pass v ds _ = true

abbrev pub is_integer : Data → Bool
is_integer (integer z) = true
is_integer _ = false

abbrev pub are_integers : Items → Bool
are_integers no_items = true
are_integers (item d ds) = is_integer d && are_integers ds

-- an integer for a scalar, and at most its length integers for an array
abbrev pub is_filling : Option ℕ → Data → Bool
is_filling None d = is_integer d
is_filling (Some n) (array ds) = nat_le (count_items ds) n && are_integers ds
is_filling (Some n) _ = false

abbrev pub is_value : Option Slot → Data → Bool
is_value None d = false
is_value (Some s) d = is_filling s.length d

-- each name has such a value
abbrev pub values_pass : List Declaration → Members → Bool
values_pass ds no_members = true
values_pass ds (member w d ms) = is_value (slot_of ds w) d && values_pass ds ms

-- `memory` is a table of such values, where it stands
abbrev pub memory_passes : List Declaration → Option Data → Bool
memory_passes ds None = true
memory_passes ds (Some (table ms)) = values_pass ds ms
memory_passes ds (Some _) = false

-- the integer, and 0 where there is none
abbrev pub number_of : Option Data → ℤ
number_of (Some (integer z)) = z
number_of _ = pos 0

-- the values of this many elements: the items, and then zeros
abbrev pub elements_of : ℕ → Items → List ℤ
elements_of zero ds = []
elements_of (suc n) no_items = pos 0 ∷ elements_of n no_items
elements_of (suc n) (item d ds) = number_of (Some d) ∷ elements_of n ds

-- the value of a scalar, or those of an array's elements
abbrev pub values_of : Option ℕ → Option Data → List ℤ
values_of None d = number_of d ∷ []
values_of (Some n) d = elements_of n (items_in d)

-- the value of each variable: what its declaration's name has in the table
abbrev pub memory_of : List Declaration → Members → List ℤ
memory_of [] ms = []
memory_of (d ∷ ds) ms = values_of d.1.length (get_member d.0 ms) ++ memory_of ds ms
