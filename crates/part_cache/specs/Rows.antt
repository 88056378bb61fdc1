-- A partitioned cache as contracts see it.
use Rattle.std.specs.Prelude.{◌≡◌, ℕ, ◌+◌, ◌*◌, ◌%◌, ◌<◌, ◌≤◌, Bool, eqb, ◌&&◌, List, [], ◌∷◌, ◌++◌, length, map, replicate, slice_index_or, slice_set}
use Rattle.std.specs.List.{list_any, range_with_len}
use Rattle.label_lattice.specs.Order.{Order, lattice_of}
use Rattle.part_cache.specs.declared.replacement.Replacement.{Replacement}
use Rattle.part_cache.specs.declared.replacement.Replacement.TheVariants.{LeastRecent}
use Rattle.part_cache.specs.Ways.{replaced}
use Rattle.part_cache.specs.History.{Touched, some_below, held_by}

-- of each set of each partition the tags that it holds, the one that goes first at the end; the row of a label's set
-- is label * sets + set
pub record Rows : Type 0 where
  pub order : Order
  pub sets : ℕ
  pub ways : ℕ
  pub rows : List (List ℕ)

abbrev pub tags_at : Rows → ℕ → ℕ → List ℕ
tags_at c label set = slice_index_or c.rows (label * c.sets + set) []

-- there is a row for each set of each partition, and each has at most as many tags as there are ways
pub record IsCache (c : Rows) : Type 0 where
  pub some_set : 0 < c.sets
  pub some_way : 0 < c.ways
  pub each_set : length c.rows ≡ c.order.size * c.sets
  pub few : (k : ℕ) → length (slice_index_or c.rows k []) ≤ c.ways

-- the tag is in its set of the partition
abbrev pub has : Rows → ℕ → ℕ → Bool
has c tag label = list_any (eqb tag) (tags_at c label (tag % c.sets))

-- a partition whose label flows to er has the tag
abbrev pub found : Rows → ℕ → ℕ → Bool
found c tag er = some_below c.order.size (λ label. (lattice_of c.order).flows label er && has c tag label)

-- the cache after a touch of the tag in the partition of ew: that partition's set of the tag is touched
abbrev pub touched_by : Replacement → Rows → ℕ → ℕ → Rows
touched_by r c tag ew =
    record c { rows = slice_set c.rows (ew * c.sets + tag % c.sets) (replaced r c.ways tag (tags_at c ew (tag % c.sets))) }

-- the same where the least recently used goes first
abbrev pub touched : Rows → ℕ → ℕ → Rows
touched = touched_by LeastRecent

-- the tags of each row are those that the history says are held
pub record StandsBy (r : Replacement) (c : Rows) (history : List Touched) : Type 0 where
  pub each : (label set : ℕ) → label < c.order.size → set < c.sets → tags_at c label set ≡ held_by r c.sets c.ways history label set

abbrev pub StandsFor : Rows → List Touched → Type 0
StandsFor = StandsBy LeastRecent

-- the tags of a partition, by set
abbrev pub tag_rows : Rows → ℕ → List (List ℕ)
tag_rows c label = map (tags_at c label) (range_with_len 0 c.sets)

-- rows as one list of numbers: each row's length, and then its tags
abbrev pub numbers_of : List (List ℕ) → List ℕ
numbers_of [] = []
numbers_of (row ∷ rows) = length row ∷ (row ++ numbers_of rows)

-- what a partition holds, as a list of numbers
abbrev pub part_of : ℕ → Rows → List ℕ
part_of label c = numbers_of (tag_rows c label)

-- the cache is one of this lattice with these numbers of sets and ways
pub record IsCacheOf (order : Order) (sets ways : ℕ) (c : Rows) : Type 0 where
  pub same_order : c.order ≡ order
  pub same_sets : c.sets ≡ sets
  pub same_ways : c.ways ≡ ways
  pub cache : IsCache c

-- no partition holds anything
abbrev pub empty_cache : Order → ℕ → ℕ → Rows
empty_cache order sets ways = record { order = order; sets = sets; ways = ways; rows = replicate (order.size * sets) [] }
