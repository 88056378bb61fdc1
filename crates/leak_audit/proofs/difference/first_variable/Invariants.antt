use Rattle.std.proofs.Common.{◌≡◌, ◌<◌, ℕ}
use Rattle.label_lattice.specs.Lattice.{Flows}
use Rattle.mit_syntax.specs.Values.{read}
use Rattle.timing_types.specs.Labelled.{order_of, labels_of}
use Rattle.leak_audit.proofs.difference.first_variable.Given as goal

abbrev pub invariant-loop-x : goal.invariant-loop-x
invariant-loop-x l = record {
  before : (y : ℕ) → y < l.x → Flows (order_of l.p) (labels_of l.p y) l.observer.number → read l.one y ≡ read l.other y;
  order : l.lattice ≡ l.p.program.order;
}
