-- The touches of a run.
use Rattle.std.specs.Prelude.{ℕ, pos, ◌||◌, ◌&&◌, if◌then◌else◌, nat_le, Bool, List, [], ◌∷◌, Option, None, Some, codes, option_map, option_and_then, position}
use Rattle.std.specs.Str.{bytes_eq}
use Rattle.toml.specs.Data.{Data, Items, no_items, item, Members, get_member, string, integer, array, table}
use Rattle.label_lattice.specs.declared.label.Label.{Label}
use Rattle.label_lattice.specs.Order.{Order}
use Rattle.env_contract.specs.declared.place.Place.{Place}
use Rattle.env_contract.specs.declared.place.Place.TheVariants.{Page, Code, Data as DataCache, Second}
use Rattle.env_contract.specs.declared.place.Touch.{Touch}
use Rattle.start_file.specs.declared.version.Version.{Version}
use Rattle.start_file.specs.Tables.{keys_pass}
use Rattle.start_file.specs.Versions.{is_two}

-- the keys of a touch
abbrev pub is_touch_key : List ℕ → Bool
is_touch_key w = bytes_eq w (codes "place") || bytes_eq w (codes "label") || bytes_eq w (codes "address")

-- the place with a name; in version 2 the second level is one
abbrev pub place_named : Version → List ℕ → Option Place
place_named v w =
    if bytes_eq w (codes "page") then Some Page
    else if bytes_eq w (codes "code") then Some Code
    else if bytes_eq w (codes "data") then Some DataCache
    else if bytes_eq w (codes "second") && is_two v then Some Second
    else None

abbrev pub place_of : Version → Option Data → Option Place
place_of v (Some (string w)) = place_named v w
place_of v _ = None

-- the label with a name
abbrev pub label_named : Order → List ℕ → Option Label
label_named o w = option_map (λ k. record { number = k }) (position (λ n. bytes_eq n w) o.names)

abbrev pub label_of : Order → Option Data → Option Label
label_of o (Some (string w)) = label_named o w
label_of o _ = None

-- an integer from 0 to 4294967295
abbrev pub address_of : Option Data → Option ℕ
address_of (Some (integer (pos n))) = if nat_le n 4294967295 then Some n else None
address_of _ = None

abbrev pub touch_from : Option Place → Option Label → Option ℕ → Option Touch
touch_from (Some p) (Some l) (Some a) = Some (record { place = p; label = l; address = a })
touch_from _ _ _ = None

abbrev pub touch_in : Version → Order → Members → Option Touch
touch_in v o ms =
    if keys_pass is_touch_key ms
    then touch_from (place_of v (get_member (codes "place") ms)) (label_of o (get_member (codes "label") ms)) (address_of (get_member (codes "address") ms))
    else None

-- a table with exactly the three keys
abbrev pub touch_of : Version → Order → Data → Option Touch
touch_of v o (table ms) = touch_in v o ms
touch_of v o _ = None

-- all touches, in order
abbrev pub touches_of : Version → Order → Items → Option (List Touch)
touches_of v o no_items = Some []
touches_of v o (item d ds) = option_and_then (λ t. option_map (λ ts. t ∷ ts) (touches_of v o ds)) (touch_of v o d)

-- the touches of a run, and none where it has no such key
abbrev pub touches_in : Version → Order → Option Data → Option (List Touch)
touches_in v o None = Some []
touches_in v o (Some (array ds)) = touches_of v o ds
touches_in v o (Some _) = None
