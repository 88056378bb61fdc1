use Rattle.std.proofs.Common.{◌≡◌, ◌<◌, ℕ, pos, get_or}
use Rattle.toml.specs.Data.{get_item}
use Rattle.toml.specs.View.{items_view}
use Rattle.start_file.specs.Values.{number_of}
use Rattle.start_file.proofs.memory.put_elements.Given as goal

-- the first cells are written
abbrev pub invariant-loop-i : goal.invariant-loop-i
invariant-loop-i l = (k : ℕ) → k < l.i → get_or l.cells k (pos 0) ≡ number_of (get_item k (items_view l.values))
