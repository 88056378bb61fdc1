use Rattle.std.proofs.Common.{◌≡◌, ◌++◌, drop}
use Rattle.toml.specs.View.{items_view}
use Rattle.start_faults.specs.Values.{element_lines}
use Rattle.start_faults.proofs.values.put_element.Given as goal

abbrev pub invariant-loop-i : goal.invariant-loop-i
invariant-loop-i l =
    l.out.items ++ element_lines l.key l.i (items_view (drop l.i l.values)) ≡ l.initial.out.items ++ element_lines l.key 0 (items_view l.values)
