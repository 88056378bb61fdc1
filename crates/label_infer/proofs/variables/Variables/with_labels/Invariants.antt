use Rattle.label_lattice.specs.Lattice.{Flows}
use Rattle.label_lattice.specs.Order.{lattice_of}
use Rattle.label_infer.specs.Rows.{has_in}
use Rattle.label_infer.proofs.Holding.{AreMet, IsLeastUp}
use Rattle.label_infer.proofs.variables.Variables.with_labels.Given as goal

abbrev pub invariant-loop-l : goal.invariant-loop-l
invariant-loop-l l = record {
  up : Flows (lattice_of l.order) l.fn.base.number l.have.number;
  met : AreMet (lattice_of l.order) l.self-inside.labels.items l.fn.base.number (has_in l.row.words.items) l.l l.have.number;
  least : IsLeastUp (lattice_of l.order) l.self-inside.labels.items l.fn.base.number (has_in l.row.words.items) l.have.number;
}
