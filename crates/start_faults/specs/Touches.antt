-- What is told of a touch that is none.
use Rattle.std.specs.Prelude.{ℕ, ◌+◌, if◌then◌else◌, is_some, List, [], ◌∷◌, ◌++◌, Option, Some, None, codes, decimal}
use Rattle.toml.specs.Data.{Data, Items, no_items, item, Members, get_member, table}
use Rattle.label_lattice.specs.Order.{Order}
use Rattle.start_file.specs.declared.version.Version.{Version}
use Rattle.start_file.specs.declared.version.Version.TheVariants.{One, Two}
use Rattle.start_file.specs.Touches.{place_of, label_of, address_of, touch_of}
use Rattle.start_faults.specs.Found.{has_key, key_lines, place_lines, first_unknown, array_in}
use Rattle.start_faults.specs.declared.keys.Keys.TheVariants.{Touch}

abbrev pub places_wanted : Version → List ℕ
places_wanted One = codes "page code data; second from version = 2 on"
places_wanted Two = codes "page code data second"

unfoldable pub address_wanted : List ℕ
address_wanted = codes "an integer from 0 to 4294967295"

-- the names of labels
abbrev pub names_text : List (List ℕ) → List ℕ
names_text [] = []
names_text (w ∷ ws) = codes " " ++ (w ++ names_text ws)

abbrev pub label_wanted : Order → List ℕ
label_wanted o = codes "a label:" ++ names_text o.names

abbrev pub touch_place : ℕ → List ℕ
touch_place i = codes "touch[" ++ (decimal i ++ codes "]")

-- of the three values of a touch the first that is none
abbrev pub member_lines : Version → Order → ℕ → Members → List ℕ
member_lines v o i ms =
    if is_some (place_of v (get_member (codes "place") ms))
    then (if is_some (label_of o (get_member (codes "label") ms))
    then place_lines (touch_place i ++ codes ".address") (get_member (codes "address") ms) address_wanted
    else place_lines (touch_place i ++ codes ".label") (get_member (codes "label") ms) (label_wanted o))
    else place_lines (touch_place i ++ codes ".place") (get_member (codes "place") ms) (places_wanted v)

abbrev pub keyed_lines : Version → Order → ℕ → Members → Option (List ℕ) → List ℕ
keyed_lines v o i ms None = member_lines v o i ms
keyed_lines v o i ms (Some k) = key_lines (touch_place i ++ codes ".") Touch k

-- the touch behind i others
abbrev pub touch_lines : Version → Order → ℕ → Data → List ℕ
touch_lines v o i (table ms) = keyed_lines v o i ms (first_unknown (has_key Touch) ms)
touch_lines v o i d = place_lines (touch_place i) (Some d) (codes "a table")

-- the first that is none, behind i others
abbrev pub list_lines : Version → Order → ℕ → Items → List ℕ
list_lines v o i no_items = []
list_lines v o i (item d ds) = if is_some (touch_of v o d) then list_lines v o (i + 1) ds else touch_lines v o i d

-- the touches of a run
abbrev pub touches_told : Version → Order → Option Data → Option Items → List ℕ
touches_told v o d None = place_lines (codes "touch") d (codes "an array of tables")
touches_told v o d (Some ds) = list_lines v o 0 ds

abbrev pub touches_lines : Version → Order → Option Data → List ℕ
touches_lines v o d = touches_told v o d (array_in d)
