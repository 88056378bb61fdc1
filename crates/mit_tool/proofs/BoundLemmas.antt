-- Counts are within their bounds.
use Rattle.std.proofs.Common.{◌<◌, ◌≤◌, ℕ, Bool, List, [], ◌∷◌, sym, subst}
use Rattle.std.specs.List.{AllZip}
use Rattle.mit_syntax.specs.Program.{Syntax}
use Rattle.timing_types.specs.Labelled.{LabelledProgram}
use Rattle.leak_bound.specs.Records.{Tests, distinct_count}
use Rattle.leak_audit.specs.Agreement.{starts_of}
use Rattle.leak_audit.proofs.Reporting.{report_within}
use Rattle.cut_audit.proofs.Reporting as cut
use Rattle.black_box.specs.Audits.{same_cycles}
use Rattle.black_box.specs.Schedule.{IsSchedule}
use Rattle.black_box.specs.Outcomes.{Outcome, IsOutcome}
use Rattle.black_box.specs.Bound.{box_bound}
use Rattle.black_box.proofs.Gathered.{cycles_test}
use Rattle.history_bound.specs.Over.{AnyHistory, history_made}
use Rattle.tool_words.specs.declared.words.EnvName.{EnvName}
use Rattle.tool_stages.specs.declared.envs.Environment.TheVariants.{Named}
use Rattle.tool_stages.specs.Stages.{Types}
use Rattle.tool_stages.specs.Envs.{environment}
use Rattle.tool_texts.specs.Reports.{all_released}
use Rattle.tool_stages.specs.Accepted.{TypedAreSound}
use Rattle.tool_stages.proofs.EnvLemmas.{named_partitioned}
use Rattle.tool_stages.proofs.SoundLemmas.{least_is_sound}
use Rattle.mit_tool.specs.Bounded.{AuditsAreWithin, CutsAreWithin, ReleasesAreWithin}

-- an observer of the program is one of the labelled program
below : (p : Syntax) (q : LabelledProgram) (o : ℕ) → Types p q → o < p.order.size → o < q.program.order.size
below p q o types l = subst (λ (z : Syntax). o < z.order.size) (sym types.program) l

module _ (sound : TypedAreSound) where
  pub audits_within : (e : EnvName) (t : ℕ) → AuditsAreWithin e t
  audits_within e t some words p q o ss r spelled types l is =
      report_within (environment (Named e) q.program.order) AnyHistory q o t (least_is_sound sound words p q spelled types (Named e)
      (named_partitioned e)).halted (below p q o types l) some
      (starts_of history_made q.program.order ss) r is

  pub cuts_within : (e : EnvName) (t : ℕ) → CutsAreWithin e t
  cuts_within e t some words p q o ss r spelled types l is =
      cut.report_within (environment (Named e) q.program.order) AnyHistory q o t (starts_of history_made q.program.order ss)
      (least_is_sound sound words p q spelled types (Named e) (named_partitioned e)).cut (below p q o types l) some r is

-- lists of releases are few
abbrev pub FewLists : Type 0
FewLists = (q t : ℕ) → 0 < q → 0 < t → (runs lists : List (List ℕ)) → AllZip (IsSchedule q t) runs lists → (same : List ℕ → List ℕ → Bool) → Tests same
    → distinct_count same lists ≤ box_bound t

schedules : (q t : ℕ) (runs : List (List ℕ)) (outcomes : List Outcome) → AllZip (IsOutcome q t) runs outcomes
    → AllZip (IsSchedule q t) runs (all_released outcomes)
schedules q t [] [] h = h
schedules q t [] (w ∷ ws) h = h
schedules q t (r ∷ rs) [] h = h
schedules q t (r ∷ rs) (w ∷ ws) h = (h.0.schedule, schedules q t rs ws h.1)

pub releases_within : FewLists → (first t : ℕ) → ReleasesAreWithin first t
releases_within few first t some more runs outcomes is =
    few first t some more runs (all_released outcomes) (schedules first t runs outcomes is) same_cycles cycles_test
