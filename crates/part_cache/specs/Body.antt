-- The sets of the body, one after the other.
use Rattle.std.specs.Prelude.{◌≡◌, ◌*◌, ◌≤◌, ◌<◌, length, map}
use Rattle.std.specs.List.{All}
use Rattle.label_lattice.specs.Order.{most_labels}
use Rattle.part_cache.specs.Ways.{held_tags, AreWays}
use Rattle.part_cache.specs.Rows.{Rows}
use Rattle.part_cache.specs.declared.ways.Ways.{Ways}
use Rattle.part_cache.specs.declared.cache.PartCache.TheInside.{Inside}

abbrev pub rows_view : Inside → Rows
rows_view c =
    record {
      order = c.lattice.value;
      sets = c.sets;
      ways = c.ways;
      rows = map (λ (w : Ways). held_tags w.tags) c.slots.items;
    }

pub record IsBody (c : Inside) : Type 0 where
  pub some_set : 0 < c.sets
  pub some_way : 0 < c.ways
  pub labels : c.lattice.value.size ≤ most_labels
  pub sets_below : c.sets ≤ 4096
  pub ways_below : c.ways ≤ 8
  pub long : length c.slots.items ≡ c.lattice.value.size * c.sets
  pub ways_are : All (λ (w : Ways). AreWays w.tags) c.slots.items
  pub few : All (λ (w : Ways). length (held_tags w.tags) ≤ c.ways) c.slots.items
