use Rattle.std.proofs.Common.{◌≡◌, length, map, drop}
use Rattle.std.specs.Prelude.{All}
use Rattle.space_starts.specs.Space.{IsInterval}
use Rattle.space_file.specs.Ranges.{items_of}
use Rattle.space_file.proofs.Lists.{after_items}
use Rattle.space_file.proofs.list.items.Given as goal

-- the items of the first pieces
abbrev pub invariant-loop-piece : goal.invariant-loop-piece
invariant-loop-piece l = record {
  so_far : items_of (map (λ w. w.now) l.pieces) ≡ after_items l.items.items (items_of (drop l.piece-index (map (λ w. w.now) l.pieces)));
  are : All IsInterval l.items.items;
  long : length l.items.items ≡ l.piece-index;
}
