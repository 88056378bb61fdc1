use Rattle.std.proofs.Common.{◌≡◌, ◌+◌, ◌++◌, drop, length}
use Rattle.label_lattice.specs.Order.{lattice_of}
use Rattle.mit_syntax.specs.Plan.{list_plan, count}
use Rattle.timing_types.specs.Labelling.{label_at}
use Rattle.type_cert.specs.Places.{places, last_of}
use Rattle.type_cert.proofs.places.+places.Given as goal

abbrev pub invariant-list_places-loop-k : goal.invariant-list_places-loop-k
invariant-list_places-loop-k l = record {
  count : length l.found.items + count (list_plan (drop l.k l.commands)) ≡ length l.fn.found.items + count (list_plan l.commands);
  places : l.fn.found.items ++ places (lattice_of l.order) (label_at l.order.bottom l.variables) (list_plan l.commands) (length l.fn.found.items)
      l.pc.number l.fn.start l.close
      ≡ l.found.items ++ places (lattice_of l.order) (label_at l.order.bottom l.variables) (list_plan (drop l.k l.commands))
      (length l.found.items) l.pc.number l.from l.close;
  last : last_of (list_plan l.commands) (length l.fn.found.items) (length l.fn.found.items)
      ≡ last_of (list_plan (drop l.k l.commands)) (length l.found.items) l.last;
}
