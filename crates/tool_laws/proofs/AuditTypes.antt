-- The least labelling of the program types it.
use Rattle.std.proofs.Common.{◌≡◌, ◌<◌, refl, ap, sym, subst, ℕ, zero, suc, [], ◌∷◌, arith}
use Rattle.std.proofs.lemmas.Bool.{false≢true}
use Rattle.label_lattice.specs.Lattice.{Flows}
use Rattle.mit_syntax.specs.Todo.{Marks}
use Rattle.mit_syntax.specs.Declarations.{cell_at}
use Rattle.timing_types.specs.Labelling.{Labelling, IsLabelling, IsKept, variable_of, marks_of, level_of}
use Rattle.timing_types.specs.Labelled.{LabelledProgram, HasType}
use Rattle.label_infer.specs.Least.{Labels, MeetsOmitted, Below, IsLeast}
use Rattle.tool_laws.proofs.Order.{low, high, table, flow_table, join_table, two, two_lattice, lattice, low_flows}
use Rattle.tool_laws.proofs.AuditProgram.{declarations, program}

abbrev pub labels : Labelling
labels = record { variables = high ∷ low ∷ []; commands = (low, low) ∷ (low, low) ∷ (low, low) ∷ []; levels = high ∷ [] }

abbrev pub labelled : LabelledProgram
labelled = record { program = program; labels = labels }

marks_low : (i : ℕ) → marks_of two labels i ≡ record { er = 0; ew = 0 }
marks_low zero = refl
marks_low (suc zero) = refl
marks_low (suc (suc zero)) = refl
marks_low (suc (suc (suc i))) = refl

variable_below : (x : ℕ) → variable_of two labels x < 2
variable_below zero = omega arith
variable_below (suc zero) = omega arith
variable_below (suc (suc x)) = omega arith

level_below : (k : ℕ) → level_of two labels k < 2
level_below zero = omega arith
level_below (suc k) = omega arith

declared : (x : ℕ) → x < 2 → IsKept (cell_at declarations x).label (variable_of two labels x)
declared zero h = refl
declared (suc zero) h = refl
declared (suc (suc x)) h = absurd (omega (arith, h))

keeps : IsLabelling program labels
keeps = record {
  variables_fit = refl;
  commands_fit = refl;
  levels_fit = refl;
  variables_below = variable_below;
  commands_below = λ i.
      let e = ap (λ (m : Marks). m.er) (marks_low i) in
      let f = ap (λ (m : Marks). m.ew) (marks_low i) in
      (omega (arith, e), omega (arith, f));
  levels_below = level_below;
  declared = declared;
  written = (tt, refl, (tt, tt), (tt, tt));
}

pub are_labels : Labels program labels
unfolding table flow_table join_table
are_labels = record { keeps = keeps; own = (refl, (refl, tt), (refl, tt)) }

meets : MeetsOmitted program labels
meets = (
  (λ e. absurd (false≢true e)),
  ((λ e. absurd (false≢true e)), ((λ e. absurd (false≢true e)), ((λ e. absurd (false≢true e)), ((λ e. absurd (false≢true e)), tt)))),
)

same_flows : (a b : ℕ) → b ≡ a → Flows lattice a b
same_flows a b e = subst (λ (x : ℕ). Flows lattice a x) (sym e) (two_lattice.same a)

variables_below : (others : Labelling) → IsLabelling program others → (x : ℕ) → Flows lattice (variable_of two labels x) (variable_of two others x)
variables_below others k zero = same_flows 1 (variable_of two others 0) (k.declared 0 (omega arith))
variables_below others k (suc zero) = low_flows 0 (variable_of two others 1) refl
variables_below others k (suc (suc x)) = low_flows 0 (variable_of two others (suc (suc x))) refl

levels_below : (others : Labelling) → IsLabelling program others → (k : ℕ) → Flows lattice (level_of two labels k) (level_of two others k)
levels_below others k zero = same_flows 1 (level_of two others 0) k.written.1
levels_below others k (suc i) = low_flows 0 (level_of two others (suc i)) refl

below : (others : Labelling) → IsLabelling program others → Below program labels others
below others k = record {
  variables = variables_below others k;
  reads = λ i. low_flows (marks_of two labels i).er (marks_of two others i).er (ap (λ (m : Marks). m.er) (marks_low i));
  writes = λ i. low_flows (marks_of two labels i).ew (marks_of two others i).ew (ap (λ (m : Marks). m.ew) (marks_low i));
  levels = levels_below others k;
}

pub least : IsLeast program labels
least = record { labels = are_labels; meets = meets; least = λ others l m. below others l.keeps }

pub typed : HasType labelled
unfolding table flow_table join_table
typed = (0, (1, refl, (refl, refl), refl, (refl, refl, refl)))
