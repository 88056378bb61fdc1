-- The tables of a document.
use Rattle.std.specs.Prelude.{ℕ, ◌+◌, Bool, true, ◌&&◌, List, Option, Some, option_map}
use Rattle.std.specs.Borrow.{Bor}
use Rattle.toml.specs.Data.{Data, Items, no_items, item, Members, no_members, member}
use Rattle.toml.specs.Data as toml
use Rattle.toml.specs.declared.value.Value.{Value}
use Rattle.toml.specs.View.{view}

-- each key passes the test
abbrev pub keys_pass : (List ℕ → Bool) → Members → Bool
keys_pass test no_members = true
keys_pass test (member k d ms) = test k && keys_pass test ms

-- how many items there are
abbrev pub count_items : Items → ℕ
count_items no_items = 0
count_items (item d ds) = 1 + count_items ds

-- the members of a table, and none where there is no table
abbrev pub members_in : Option Data → Members
members_in (Some (toml.table ms)) = ms
members_in _ = no_members

-- the items of an array, and none where there is no array
abbrev pub items_in : Option Data → Items
items_in (Some (toml.array ds)) = ds
items_in _ = no_items

-- the data of a value that was looked up
abbrev pub data_of : Option (Bor Value) → Option Data
data_of found = option_map (λ v. view v.now) found
