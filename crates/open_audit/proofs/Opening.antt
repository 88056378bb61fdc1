-- Runs that are kept have a report.
use Rattle.std.proofs.Common.{◌≡◌, ℕ, ◌+◌, ◌*◌, List, [], ◌∷◌, length, map, refl, sym, ap, ◌∙◌}
use Rattle.std.specs.List.{count_by}
use Rattle.label_lattice.specs.Order.{Order, lattice_of, count_not_below}
use Rattle.mit_syntax.specs.Program.{plan_of}
use Rattle.timing_types.specs.Labelled.{LabelledProgram, order_of, labels_of, levels_of}
use Rattle.source_meaning.specs.Source.{started_in}
use Rattle.env_contract.specs.Env.{Env}
use Rattle.label_code.specs.Machine.{Event}
use Rattle.label_code.specs.Run.{Start}
use Rattle.code_lower.specs.Follows.{KeepsOrder}
use Rattle.code_lower.specs.Lowered.{lowered}
use Rattle.leak_bound.specs.Digits.{digits}
use Rattle.leak_bound.specs.Relevant.{Begins}
use Rattle.leak_bound.specs.Records.{Each, Pairwise, distinct_count}
use Rattle.leak_bound.specs.Sound.{Halts, FirstBegins}
use Rattle.leak_bound.proofs.Final.{begun-told}
use Rattle.leak_audit.specs.Agreement.{AgreeFor}
use Rattle.leak_audit.specs.Sequences.{same_sequence, classes_in}
use Rattle.leak_audit.specs.Surveyed.{relevant_for, run_of, sequence_from, begun_first}
use Rattle.leak_audit.specs.declared.report.AuditReport.{AuditReport}
use Rattle.open_audit.specs.declared.runs.Kept.{Kept}
use Rattle.open_audit.specs.Kept.{IsKept}
use Rattle.open_audit.specs.Open.{HasReport}

module _ {E : Type 0} (v : Env E) (serves : Order → E → Type 0) (p : LabelledProgram) (o t : ℕ)
    (keeps : KeepsOrder v (lowered p).instrs (plan_of p.program)) where
  -- the run of a start that halts begins as many relevant mitigations as the program does
  begins : (s : Start E) → Halts v (lowered p).instrs t s
      → Begins (order_of p) (labels_of p) (levels_of p) o (plan_of p.program) s.memory (begun_first v p o t (s ∷ []))
  begins s h =
      let f = keeps.follows s t in
      (f.0, f.2 h, ap (λ z. count_by (relevant_for p o) (started_in z)) (sym f.1) ∙ sym (begun-told (relevant_for p o) (run_of v p t s).core.log))

  first_begins : (ss : List (Start E)) → Each (Halts v (lowered p).instrs t) ss
      → FirstBegins (order_of p) (labels_of p) (levels_of p) o (plan_of p.program) ss (begun_first v p o t ss)
  first_begins [] h = refl
  first_begins (s ∷ ss) h = begins s h.0

  -- the report of runs that are kept
  abbrev report_of : (ss : List (Start E)) (k : Kept) → AuditReport
  report_of ss k = record {
    runs = length ss;
    mitigations = begun_first v p o t ss;
    measures =
        record {
          levels = count_not_below (lattice_of p.program.order) o p.program.order.size;
          distinct = distinct_count same_sequence (map (sequence_from v p o t) ss);
          base = begun_first v p o t ss + 1;
          exponent = count_not_below (lattice_of p.program.order) o p.program.order.size * digits t;
          classes = k.kinds.classes;
        };
  }

  pub has_report : (ss : List (Start E)) (k : Kept) → Pairwise (AgreeFor v serves p o) ss → IsKept v p o t ss k
      → HasReport v serves p o t ss k.kinds.classes.items
  has_report ss k agree kept =
      let seqs : List (List Event) = map (sequence_from v p o t) ss in
      record {
        report = report_of ss k;
        is =
            record {
              agree = agree;
              halted = kept.halts;
              few = kept.few;
              runs = refl;
              mitigations = first_begins ss kept.halts;
              measures =
                  record {
                    levels = refl;
                    distinct = refl;
                    base = refl;
                    exponent = refl;
                    classes = kept.kinds.classes ∙ ap (λ ds. classes_in same_sequence ds seqs) kept.kinds.different;
                  };
            };
        classes_are = refl;
      }
