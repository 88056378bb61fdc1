use Rattle.std.proofs.Common.{◌≡◌, ◌+◌, drop, map}
use Rattle.toml.specs.Data.{Members}
use Rattle.toml.specs.View.{items_view}
use Rattle.start_file.specs.Starts.{runs_from, seen}
use Rattle.start_file.specs.Shared.{filled_items, IsShared}
use Rattle.start_file.proofs.Listed.{onto}
use Rattle.start_file.proofs.starts.all_runs.Given as goal

-- the starts so far and those of the rest are those of all
abbrev pub invariant-loop-i : goal.invariant-loop-i
invariant-loop-i l =
    (ms : Members) → IsShared l.program l.version ms l.shared
    → runs_from l.program l.version 1 (filled_items ms (items_view l.values))
    ≡ onto (map seen l.starts.items) (runs_from l.program l.version (l.i + 1) (filled_items ms (items_view (drop l.i l.values))))
