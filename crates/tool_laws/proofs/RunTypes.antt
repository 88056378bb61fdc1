-- The least labelling of the program types it.
use Rattle.std.proofs.Common.{◌≡◌, ◌<◌, refl, ap, sym, ℕ, zero, suc, [], ◌∷◌, arith}
use Rattle.std.proofs.lemmas.Bool.{false≢true}
use Rattle.label_lattice.specs.Lattice.{Flows}
use Rattle.mit_syntax.specs.Todo.{Marks}
use Rattle.mit_syntax.specs.Declarations.{cell_at}
use Rattle.timing_types.specs.Labelling.{Labelling, IsLabelling, IsKept, variable_of, marks_of, level_of}
use Rattle.timing_types.specs.Labelled.{LabelledProgram, HasType}
use Rattle.label_infer.specs.Least.{Labels, MeetsOmitted, Below, IsLeast}
use Rattle.tool_laws.proofs.Order.{low, two, two_lattice, low_join, lattice, low_flows}
use Rattle.tool_laws.proofs.RunProgram.{declarations, program}

abbrev pub labels : Labelling
labels = record { variables = low ∷ []; commands = (low, low) ∷ []; levels = [] }

abbrev pub labelled : LabelledProgram
labelled = record { program = program; labels = labels }

variables_low : (x : ℕ) → variable_of two labels x ≡ 0
variables_low zero = refl
variables_low (suc x) = refl

marks_low : (i : ℕ) → marks_of two labels i ≡ record { er = 0; ew = 0 }
marks_low zero = refl
marks_low (suc i) = refl

declared : (x : ℕ) → x < 1 → IsKept (cell_at declarations x).label (variable_of two labels x)
declared zero h = refl
declared (suc x) h = absurd (omega (arith, h))

keeps : IsLabelling program labels
keeps = record {
  variables_fit = refl;
  commands_fit = refl;
  levels_fit = refl;
  variables_below = λ x. let e = variables_low x in omega (arith, e);
  commands_below = λ i.
      let e = ap (λ (m : Marks). m.er) (marks_low i) in
      let f = ap (λ (m : Marks). m.ew) (marks_low i) in
      (omega (arith, e), omega (arith, f));
  levels_below = λ k. omega arith;
  declared = declared;
  written = (tt, tt);
}

pub are_labels : Labels program labels
are_labels = record { keeps = keeps; own = (ap (λ (x : ℕ). let m : Marks = record { er = x; ew = x } in m) (sym low_join), tt) }

meets : MeetsOmitted program labels
meets = ((λ e. absurd (false≢true e)), ((λ e. absurd (false≢true e)), tt))

below : (others : Labelling) → Below program labels others
below others = record {
  variables = λ x. low_flows (variable_of two labels x) (variable_of two others x) (variables_low x);
  reads = λ i. low_flows (marks_of two labels i).er (marks_of two others i).er (ap (λ (m : Marks). m.er) (marks_low i));
  writes = λ i. low_flows (marks_of two labels i).ew (marks_of two others i).ew (ap (λ (m : Marks). m.ew) (marks_low i));
  levels = λ k. low_flows 0 (level_of two others k) refl;
}

pub least : IsLeast program labels
least = record { labels = are_labels; meets = meets; least = λ others l m. below others }

-- what flows to L does so with L joined to it
bottom : Flows lattice 0 0
bottom = two_lattice.same 0

again : (a : ℕ) → Flows lattice a 0 → Flows lattice (lattice.join a 0) 0
again a f = two_lattice.least a 0 0 f bottom

demanded : Flows lattice (lattice.join (lattice.join (lattice.join (lattice.join 0 0) 0) 0) 0) 0
demanded =
    again (lattice.join (lattice.join (lattice.join 0 0) 0) 0)
    (again (lattice.join (lattice.join 0 0) 0) (again (lattice.join 0 0) (again 0 bottom)))

pub typed : HasType labelled
typed = (0, (demanded, again 0 bottom, refl))
