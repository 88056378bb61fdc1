-- Of starts that agree, there are few different fields.
use Rattle.std.proofs.Common.{◌≡◌, ◌<◌, ◌≤◌, ℕ, ◌^◌, List, [], ◌∷◌, map, Bool, refl, sym, ap, ◌∙◌, subst, arith}
use Rattle.label_lattice.specs.Order.{Order}
use Rattle.label_lattice.specs.declared.label.Label.{Label}
use Rattle.mit_syntax.specs.Program.{Syntax, plan_of}
use Rattle.timing_types.specs.Labelled.{LabelledProgram, labels_of, levels_of}
use Rattle.env_contract.specs.Env.{Env}
use Rattle.env_contract.specs.declared.place.Touch.{Touch}
use Rattle.label_code.specs.Run.{run_from}
use Rattle.code_lower.specs.Lowered.{lowered}
use Rattle.cycle_machine.specs.Rest.{told_by}
use Rattle.start_file.specs.Starts.{StartValue}
use Rattle.leak_bound.specs.Records.{Pairwise, Tests, distinct_count}
use Rattle.leak_bound.specs.Sound.{CutSound, bound, most_ended}
use Rattle.leak_audit.specs.Agreement.{AgreeFor, start_of, starts_of}
use Rattle.leak_audit.specs.Sequences.{same_sequence}
use Rattle.leak_audit.specs.Surveyed.{relevant_for, sequence_from}
use Rattle.leak_audit.proofs.Classing.{tests_sequences}
use Rattle.leak_audit.proofs.Measuring.{power_is}
use Rattle.history_bound.specs.Over.{AnyHistory, history_made}
use Rattle.cut_audit.specs.declared.report.CutReport.{CutReport}
use Rattle.cut_audit.specs.Report.{IsReport}
use Rattle.seen_line.specs.Field.{field_text, seen_text}
use Rattle.tool_stages.specs.Stages.{Types}
use Rattle.tool_stages.specs.Envs.{environment}
use Rattle.tool_stages.specs.Accepted.{TypedAreSound}
use Rattle.tool_stages.proofs.SoundLemmas.{least_is_sound}
use Rattle.lab_seen.specs.Bounded.{FieldsAreFew, FieldsAreWithinCut}
use Rattle.lab_seen.proofs.Images.{few_images}

module _ {E : Type 0} (v : Env E) (made : Order → List Touch → E) (q : LabelledProgram) (l : Label) (t : ℕ) where
  -- the field of a run
  abbrev field_over : StartValue → List ℕ
  field_over s = seen_text q l (told_by (run_from v (lowered q).instrs t (start_of made q.program.order s)))

  fields_of_views : (ss : List StartValue)
      → map field_over ss ≡ map (field_text q.program.declarations) (map (sequence_from v q l.number t) (starts_of made q.program.order ss))
  fields_of_views [] = refl
  fields_of_views (s ∷ ss) = ap (λ z. field_over s ∷ z) (fields_of_views ss)

  fields_few : (serves : Order → E → Type 0) → l.number < q.program.order.size → 0 < t
      → CutSound v q.program.order (serves q.program.order) (labels_of q) (levels_of q) (lowered q).instrs (plan_of q.program)
      → (ss : List StartValue) → Pairwise (AgreeFor v serves q l.number) (starts_of made q.program.order ss) → (same : List ℕ → List ℕ → Bool) → Tests same
      → distinct_count same (map field_over ss) ≤ bound q.program.order l.number t
      (most_ended v (lowered q).instrs (relevant_for q l.number) t (starts_of made q.program.order ss))
  fields_few serves low some sound ss agree same tests =
      let seqs = map (sequence_from v q l.number t) (starts_of made q.program.order ss) in
      let few = sound.few l.number low t some (starts_of made q.program.order ss) agree same_sequence tests_sequences in
      let images = few_images (field_text q.program.declarations) same_sequence same tests_sequences tests seqs in
      let are = ap (distinct_count same) (fields_of_views ss) in
      omega (arith, few, images, are)

  -- with the bound of a report
  within_cut : (serves : Order → E → Type 0) → l.number < q.program.order.size → 0 < t
      → CutSound v q.program.order (serves q.program.order) (labels_of q) (levels_of q) (lowered q).instrs (plan_of q.program)
      → (ss : List StartValue) (r : CutReport) → IsReport v serves q l.number t (starts_of made q.program.order ss) r
      → (same : List ℕ → List ℕ → Bool) → Tests same
      → distinct_count same (map field_over ss) ≤ r.measures.base ^ r.measures.exponent
  within_cut serves low some sound ss r is same tests =
      let seqs = map (sequence_from v q l.number t) (starts_of made q.program.order ss) in
      let power = ap (bound q.program.order l.number t) (sym is.ended) ∙ power_is q.program.order l.number t r.ended seqs r.measures is.measures in
      subst (λ z. distinct_count same (map field_over ss) ≤ z) power (fields_few serves low some sound ss is.agree same tests)

below : (p : Syntax) (q : LabelledProgram) (o : ℕ) → Types p q → o < p.order.size → o < q.program.order.size
below p q o types l = subst (λ (z : Syntax). o < z.order.size) (sym types.program) l

pub fields_are_few : TypedAreSound → FieldsAreFew
fields_are_few sound words p q spelled types e t own some l low ss agree same tests =
    fields_few (environment e q.program.order) history_made q l t AnyHistory (below p q l.number types low) some
    (least_is_sound sound words p q spelled types e own).cut ss agree same tests

pub fields_within_cut : TypedAreSound → FieldsAreWithinCut
fields_within_cut sound words p q spelled types e t own some l low ss r is same tests =
    within_cut (environment e q.program.order) history_made q l t AnyHistory (below p q l.number types low) some
    (least_is_sound sound words p q spelled types e own).cut ss r is same tests
