use Rattle.std.proofs.Common.{◌≡◌, ◌++◌, drop}
use Rattle.json_text.specs.Json.{items_text}
use Rattle.found_print.specs.Faults.{sort_items}
use Rattle.found_print.proofs.fault.put_sorts.Given as goal

abbrev pub invariant-loop-sort : goal.invariant-loop-sort
invariant-loop-sort l = l.out.items ++ items_text (sort_items (drop l.sort-index l.sorts)) ≡ l.initial.out.items ++ items_text (sort_items l.sorts)
