-- Names in a room of a fixed size.
use Rattle.std.specs.Prelude.{ℕ, ◌-◌, List, [], ◌++◌, replicate, slice_index_or}
use Rattle.label_lattice.specs.Order.{most_labels}

-- the names, and the first of them again up to the room's end
abbrev pub filled : List (List ℕ) → ℕ → List (List ℕ)
filled names n = names ++ replicate (most_labels - n) (slice_index_or names 0 [])
