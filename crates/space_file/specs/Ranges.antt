-- The values that a `memory` of a space gives the variables.
use Rattle.std.specs.Prelude.{◌≡◌, ℕ, ℤ, pos, neg_ℤ, ◌-ℤ◌, int_le, unsigned_abs, ◌+◌, ◌-◌, ◌*◌, ◌^◌, ◌&&◌, ◌||◌, ◌==◌, ◌++◌, nat_le, nat_lt}
use Rattle.std.specs.Prelude.{if◌then◌else◌, Bool, true, List, [], ◌∷◌}
use Rattle.std.specs.Prelude.{length, take, drop, replicate, slice_index, position, Option, None, Some, is_some, option_map, option_and_then}
use Rattle.std.specs.Char.{is_ascii_digit}
use Rattle.std.specs.List.{prefix_len, suffix_len, slice_split}
use Rattle.toml.specs.Data.{Data, Items, no_items, item, Members, get_member, string, integer, array, table}
use Rattle.mit_syntax.specs.Declarations.{Declaration, declared}
use Rattle.start_file.specs.Tables.{keys_pass, count_items}
use Rattle.space_starts.specs.declared.space.Interval.{Interval}

-- ---- texts of lists

-- a number with one digit more, if that is one and the number is not above a limit
abbrev pub with_digit : ℕ → ℕ → ℕ → Option ℕ
with_digit most n b = if is_ascii_digit b && nat_le (n * 10 + (b - 48)) most then Some (n * 10 + (b - 48)) else None

abbrev pub digits_after : ℕ → List ℕ → ℕ → Option ℕ
digits_after most [] n = Some n
digits_after most (b ∷ bs) n = option_and_then (digits_after most bs) (with_digit most n b)

-- the number that at least one digit writes, if it is not above a limit
abbrev pub natural_of : ℕ → List ℕ → Option ℕ
natural_of most [] = None
natural_of most (b ∷ bs) = digits_after most (b ∷ bs) 0

-- the number that digits write, after a minus sign or not, if it has 64 bits
abbrev pub number_of : List ℕ → Option ℤ
number_of [] = None
number_of (b ∷ bs) =
    if b == 45 then option_map (λ n. neg_ℤ (pos n)) (natural_of (2 ^ 63) bs) else option_map pos (natural_of (2 ^ 63 - 1) (b ∷ bs))

-- the numbers from one to another one
abbrev pub between : ℤ → ℤ → Option Interval
between a b = if int_le a b then Some (record { first = a; more = unsigned_abs (b -ℤ a) }) else None

abbrev pub ends_of : List ℕ → List ℕ → Option Interval
ends_of first last = option_and_then (λ a. option_and_then (between a) (number_of last)) (number_of first)

abbrev pub only : ℤ → Interval
only z = record { first = z; more = 0 }

-- a number; or a number, two points, and a number that is not less
abbrev pub parted_at : List ℕ → Option ℕ → Option Interval
parted_at w None = option_map only (number_of w)
parted_at w (Some k) =
    if nat_lt (k + 1) (length w) && (slice_index w (k + 1) == 46)
    then ends_of (take k w) (drop (k + 2) w)
    else None

abbrev pub item_of : List ℕ → Option Interval
item_of w = parted_at w (position (λ b. b == 46) w)

abbrev pub is_blank : ℕ → Bool
is_blank b = b == 32

-- without the blanks at its end
abbrev pub without_trailing : List ℕ → List ℕ
without_trailing w = take (length w - suffix_len is_blank w) w

-- without the blanks at both ends
abbrev pub trimmed : List ℕ → List ℕ
trimmed w = without_trailing (drop (prefix_len is_blank w) w)

-- what stands between commas is an item each, and blanks may stand beside a comma
abbrev pub items_of : List (List ℕ) → Option (List Interval)
items_of [] = Some []
items_of (w ∷ ws) = option_and_then (λ i. option_map (λ is. i ∷ is) (items_of ws)) (item_of (trimmed w))

-- a list has no blank at an end
abbrev pub range_of : List ℕ → Option (List Interval)
range_of w = if is_blank (slice_index w 0) || is_blank (slice_index w (length w - 1)) then None else items_of (slice_split (λ b. b == 44) w)

-- ---- values

-- what one variable may have
abbrev pub Values : Type 0
Values = List Interval

-- a list is another one with these at its end
abbrev pub Adds : List Values → List Values → Option (List Values) → Type 0
Adds old new None = ⊥
Adds old new (Some vs) = new ≡ old ++ vs

abbrev pub zero_only : Values
zero_only = only (pos 0) ∷ []

-- an integer is one value, and a text is a list
abbrev pub list_of : Data → Option Values
list_of (integer z) = Some (only z ∷ [])
list_of (string w) = range_of w
list_of _ = None

abbrev pub lists_of : Items → Option (List Values)
lists_of no_items = Some []
lists_of (item d ds) = option_and_then (λ v. option_map (λ vs. v ∷ vs) (lists_of ds)) (list_of d)

-- those of the elements of an array that has so many: the items, and then zeros
abbrev pub elements_of : ℕ → Items → Option (List Values)
elements_of n ds =
    if nat_le (count_items ds) n
    then option_map (λ vs. vs ++ replicate (n - count_items ds) zero_only) (lists_of ds)
    else None

-- those of a scalar, or of an array's elements; without a value all are 0
abbrev pub values_of : Option ℕ → Option Data → Option (List Values)
values_of None None = Some (zero_only ∷ [])
values_of None (Some d) = option_map (λ v. v ∷ []) (list_of d)
values_of (Some n) None = Some (replicate n zero_only)
values_of (Some n) (Some (array ds)) = elements_of n ds
values_of (Some n) (Some _) = None

-- those of each variable: what its declaration's name has in the table
abbrev pub memory_of : List Declaration → Members → Option (List Values)
memory_of [] ms = Some []
memory_of (d ∷ ds) ms =
    option_and_then (λ is. option_map (λ js. is ++ js) (memory_of ds ms)) (values_of d.1.length (get_member d.0 ms))

-- each key is the name of a scalar or of an array
abbrev pub names_pass : List Declaration → Option Data → Bool
names_pass ds (Some (table ms)) = keys_pass (λ w. is_some (declared ds w)) ms
names_pass ds _ = true
