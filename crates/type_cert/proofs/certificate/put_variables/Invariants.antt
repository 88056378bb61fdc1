use Rattle.std.proofs.Common.{◌≡◌, ◌+◌, ◌≤◌, ◌++◌, drop}
use Rattle.timing_types.specs.Labelled.{labels_of}
use Rattle.type_cert.specs.Text.{variables_text}
use Rattle.type_cert.specs.Derived.{declared_labels}
use Rattle.type_cert.proofs.Writing.{room}
use Rattle.type_cert.proofs.certificate.put_variables.Given as goal

abbrev pub invariant-loop-k : goal.invariant-loop-k
invariant-loop-k l = record {
  text : l.fn.out.items ++ variables_text l.order l.declarations (declared_labels (labels_of l.q) 0 l.declarations)
      ≡ l.out.items ++ variables_text l.order (drop l.k l.declarations) (declared_labels (labels_of l.q) l.first (drop l.k l.declarations));
  room : l.first + room (drop l.k l.declarations) ≤ room l.declarations;
}
