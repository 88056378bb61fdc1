use Rattle.std.proofs.Common.{◌≡◌, ◌++◌, drop}
use Rattle.label_lattice.specs.Order.{lattice_of}
use Rattle.mit_syntax.specs.Plan.{list_plan}
use Rattle.timing_types.specs.Labelling.{label_at}
use Rattle.label_infer.specs.Given.{own_pairs}
use Rattle.label_infer.proofs.marks.+marks.Given as goal

abbrev pub invariant-list_pairs-loop-c : goal.invariant-list_pairs-loop-c
invariant-list_pairs-loop-c l =
    l.fn.found.items ++ own_pairs (lattice_of l.order) (label_at l.order.bottom l.variables) (list_plan l.commands) l.pc.number
    ≡ l.found.items ++ own_pairs (lattice_of l.order) (label_at l.order.bottom l.variables) (list_plan (drop l.c-index l.commands)) l.pc.number
