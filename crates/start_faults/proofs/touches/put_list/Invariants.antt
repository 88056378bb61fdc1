use Rattle.std.proofs.Common.{◌≡◌, ◌++◌, drop}
use Rattle.toml.specs.View.{items_view}
use Rattle.start_faults.specs.Names.{version_if}
use Rattle.start_faults.specs.Touches.{list_lines}
use Rattle.start_faults.proofs.touches.put_list.Given as goal

abbrev pub invariant-loop-i : goal.invariant-loop-i
invariant-loop-i l =
    l.out.items ++ list_lines (version_if l.two) l.lattice l.i (items_view (drop l.i l.values))
    ≡ l.initial.out.items ++ list_lines (version_if l.two) l.lattice 0 (items_view l.values)
