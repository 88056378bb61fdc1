use Rattle.std.proofs.Common.{◌≡◌, ◌<◌, ℕ, length, slice_index_or, Option}
use Rattle.label_lattice.specs.declared.label.Label.{Label}
use Rattle.mit_syntax.specs.Declarations.{cell_at}
use Rattle.label_infer.proofs.first.written_labels.Given as goal

abbrev pub invariant-loop-x : goal.invariant-loop-x
invariant-loop-x l = record {
  fit : length l.found.items ≡ l.x;
  labels : (k : ℕ) (d : Option Label) → k < l.x → slice_index_or l.found.items k d ≡ (cell_at l.p.declarations k).label;
}
