-- A question after a machine: its files hold what they held, and a count that rose since then rose since the call began.
use Rattle.std.proofs.Common.{ℕ, List, Bool, Option, Some, None, refl, inl, inr}
use Rattle.label_lattice.specs.declared.label.Label.{Label}
use Rattle.mit_syntax.specs.Program.{Syntax}
use Rattle.timing_types.specs.Labelled.{LabelledProgram}
use Rattle.label_code.specs.Shaped.{Code}
use Rattle.start_file.specs.Starts.{StartValue}
use Rattle.tool_texts.specs.declared.status.Status.{Status}
use Rattle.tool_texts.specs.declared.status.Status.TheVariants as status
use Rattle.tool_stages.specs.declared.envs.Environment.{Environment}
use Rattle.tool_stages.specs.Content.{Content}
use Rattle.tool_stages.specs.Stages.{ProgramStops}
use Rattle.lab_bound.specs.Answer.{HasBound}
use Rattle.lab_leak.specs.Answer.{IsLeakAnswer}
use Rattle.space_stage.proofs.Stops.{given_rise}
use Rattle.space_stage.proofs.Listing.{listed_rise}
use Rattle.lab_check.proofs.FoundLemmas.{check_rise}
use Rattle.lab_runs.specs.Labels.{NamesAndPrepares}
use Rattle.lab_runs.specs.Shown.{OfRuns, ShowsRuns}
use Rattle.lab_seen.specs.Seen.{AreLines}
use Rattle.lab_timeline.specs.Timed.{AreTimelines}
use Rattle.lab_tune.specs.Answer.{HasTune}
use Rattle.lab_why.specs.Faulty.{WhyStops}
use Rattle.lab_why.specs.Starts.{StartsStop}
use Rattle.lab_why.proofs.StartsLemmas.{stop_since, taken_since}
use Rattle.lab_words.specs.QuestionAsked.{Asked, why, why_starts, why_audit, seen, timeline, bound, steady, leak, tune, check, help, version}
use Rattle.lab_tool.specs.Answers.{IsAnswerIn}

program_rise : (R R' : Type 0) (c : Option (Option (List ℕ))) (s : Status) (t : List ℕ) → (R → R') → ProgramStops R c s t → ProgramStops R' c s t
program_rise R R' c status.Done t f h = h
program_rise R R' c status.Refused t f h = h
program_rise R R' c status.Syntax t f h = h
program_rise R R' c status.Starts t f h = h
program_rise R R' c status.Usage t f h = h
program_rise R R' c status.ReadFault t f h = (f h.0, h.1)
program_rise R R' c status.WriteFault t f h = h
program_rise R R' c status.TooLong t f h = h
program_rise R R' c status.Budget t f h = h
program_rise R R' c status.Disagree t f h = h
program_rise R R' c status.Unfinished t f h = h
program_rise R R' c status.Memory t f h = h
program_rise R R' c status.Rejected t f h = h

why_rise : (R R' : Type 0) (c : Option (Option (List ℕ))) (s : Status) (t : List ℕ) → (R → R') → WhyStops R c s t → WhyStops R' c s t
why_rise R R' c status.Done t f h = h
why_rise R R' c status.Refused t f h = h
why_rise R R' c status.Syntax t f h = h
why_rise R R' c status.Starts t f h = h
why_rise R R' c status.Usage t f h = h
why_rise R R' c status.ReadFault t f h = (f h.0, h.1)
why_rise R R' c status.WriteFault t f h = h
why_rise R R' c status.TooLong t f h = h
why_rise R R' c status.Budget t f h = h
why_rise R R' c status.Disagree t f h = h
why_rise R R' c status.Unfinished t f h = h
why_rise R R' c status.Memory t f h = h
why_rise R R' c status.Rejected t f h = h

module _ (Rises Rises' : List ℕ → Type 0) (content : Content) (rise : (name : List ℕ) → Rises name → Rises' name) where
  prepares_rise : (file starts observer : List ℕ) (Next : Syntax → LabelledProgram → Option Label → Code → List StartValue → Status → List ℕ → Type 0)
      (s : Status) (t : List ℕ) → NamesAndPrepares Rises content file observer (Rises starts) (content starts) Next s t
      → NamesAndPrepares Rises' content file observer (Rises' starts) (content starts) Next s t
  prepares_rise file starts observer Next s t (inl h) = inl (program_rise (Rises file) (Rises' file) (content file) s t (rise file) h)
  prepares_rise file starts observer Next s t (inr (p, reads, inl h)) = inr (p, reads, inl h)
  prepares_rise file starts observer Next s t (inr (p, reads, inr (o, sees, inl h))) = inr (p, reads, inr (o, sees, inl h))
  prepares_rise file starts observer Next s t (inr (p, reads, inr (o, sees, inr (q, types, inl h)))) = inr (p, reads, inr (o, sees, inr (q, types, inl h)))
  prepares_rise file starts observer Next s t (inr (p, reads, inr (o, sees, inr (q, types, inr (code, image, inl h))))) =
      let stop = listed_rise (Rises starts) (Rises' starts) (content starts) p s t (rise starts) h in
      inr (p, reads, inr (o, sees, inr (q, types, inr (code, image, inl stop))))
  prepares_rise file starts observer Next s t (inr (p, reads, inr (o, sees, inr (q, types, inr (code, image, inr h))))) =
      inr (p, reads, inr (o, sees, inr (q, types, inr (code, image, inr h))))

  shows_rise : (refused : Bool) (file starts : List ℕ) (observer : Option (List ℕ)) (IsText : OfRuns) (s : Status) (t : List ℕ)
      → ShowsRuns refused Rises content file starts observer IsText s t → ShowsRuns refused Rises' content file starts observer IsText s t
  shows_rise refused file starts observer IsText s t (inl h) = inl (program_rise (Rises file) (Rises' file) (content file) s t (rise file) h)
  shows_rise refused file starts observer IsText s t (inr (p, reads, inl h)) = inr (p, reads, inl h)
  shows_rise refused file starts observer IsText s t (inr (p, reads, inr (o, sees, inl h))) = inr (p, reads, inr (o, sees, inl h))
  shows_rise refused file starts observer IsText s t (inr (p, reads, inr (o, sees, inr (x, shows, inl h)))) =
      inr (p, reads, inr (o, sees, inr (x, shows, inl h)))
  shows_rise refused file starts observer IsText s t (inr (p, reads, inr (o, sees, inr (x, shows, inr (code, image, inl h))))) =
      let stop = listed_rise (Rises starts) (Rises' starts) (content starts) p s t (rise starts) h in
      inr (p, reads, inr (o, sees, inr (x, shows, inr (code, image, inl stop))))
  shows_rise refused file starts observer IsText s t (inr (p, reads, inr (o, sees, inr (x, shows, inr (code, image, inr h))))) =
      inr (p, reads, inr (o, sees, inr (x, shows, inr (code, image, inr h))))

  leaks_rise : (e : Environment) (t : ℕ) (refused : Bool) (file starts observer : List ℕ) (s : Status) (y : List ℕ)
      → IsLeakAnswer Rises content file starts observer e t refused s y → IsLeakAnswer Rises' content file starts observer e t refused s y
  leaks_rise e t refused file starts observer s y (inl h) = inl (program_rise (Rises file) (Rises' file) (content file) s y (rise file) h)
  leaks_rise e t refused file starts observer s y (inr (p, reads, inl h)) = inr (p, reads, inl h)
  leaks_rise e t refused file starts observer s y (inr (p, reads, inr (o, sees, inl h))) = inr (p, reads, inr (o, sees, inl h))
  leaks_rise e t refused file starts observer s y (inr (p, reads, inr (o, sees, inr (x, shows, inl h)))) =
      inr (p, reads, inr (o, sees, inr (x, shows, inl h)))
  leaks_rise e t refused file starts observer s y (inr (p, reads, inr (o, sees, inr (x, shows, inr (code, image, inl h))))) =
      let stop = given_rise (Rises starts) (Rises' starts) (content starts) p s y (rise starts) h in
      inr (p, reads, inr (o, sees, inr (x, shows, inr (code, image, inl stop))))
  leaks_rise e t refused file starts observer s y (inr (p, reads, inr (o, sees, inr (x, shows, inr (code, image, inr h))))) =
      inr (p, reads, inr (o, sees, inr (x, shows, inr (code, image, inr h))))

  -- what answers it answers it
  pub answer_rises : (e : Environment) (a : Asked) (s : Status) (t : List ℕ) → IsAnswerIn e Rises content a s t → IsAnswerIn e Rises' content a s t
  answer_rises e (why file None) s t (inl h) = inl (why_rise (Rises file) (Rises' file) (content file) s t (rise file) h)
  answer_rises e (why file None) s t (inr h) = inr h
  answer_rises e (why file (Some name)) s t (inl h) = inl (program_rise (Rises file) (Rises' file) (content file) s t (rise file) h)
  answer_rises e (why file (Some name)) s t (inr h) = inr h
  answer_rises e (why_starts file starts) s t (inl h) = inl (why_rise (Rises file) (Rises' file) (content file) s t (rise file) h)
  answer_rises e (why_starts file starts) s t (inr (p, reads, inl h)) = inr (p, reads, inl h)
  answer_rises e (why_starts file starts) s t (inr (p, reads, inr (q, types, h))) =
      inr (p, reads, inr (q, types, taken_since (Rises starts) (Rises' starts) (content starts) (content starts) p s t refl (rise starts) h))
  answer_rises e (why_audit file starts observer machine budget) s t (inl h) = inl (why_rise (Rises file) (Rises' file) (content file) s t (rise file) h)
  answer_rises e (why_audit file starts observer machine budget) s t (inr (p, reads, inl h)) = inr (p, reads, inl h)
  answer_rises e (why_audit file starts observer machine budget) s t (inr (p, reads, inr (o, sees, inl h))) = inr (p, reads, inr (o, sees, inl h))
  answer_rises e (why_audit file starts observer machine budget) s t (inr (p, reads, inr (o, sees, inr (q, types, inl h)))) =
      inr (p, reads, inr (o, sees, inr (q, types, inl h)))
  answer_rises e (why_audit file starts observer machine budget) s t (inr (p, reads, inr (o, sees, inr (q, types, inr (code, image, inl h))))) =
      let stop : StartsStop (Rises' starts) (content starts) p s t = stop_since (Rises starts) (Rises' starts) (content starts) p s t (rise starts) h in
      inr (p, reads, inr (o, sees, inr (q, types, inr (code, image, inl stop))))
  answer_rises e (why_audit file starts observer machine budget) s t (inr (p, reads, inr (o, sees, inr (q, types, inr (code, image, inr h))))) =
      inr (p, reads, inr (o, sees, inr (q, types, inr (code, image, inr h))))
  answer_rises e (seen file starts observer machine budget refused) s t h =
      shows_rise refused file starts (Some observer) (AreLines e budget) s t h
  answer_rises e (timeline file starts observer machine budget refused) s t h =
      shows_rise refused file starts observer (AreTimelines e budget) s t h
  answer_rises e (bound file starts observer machine budget) s t h =
      prepares_rise file starts observer (λ p q o code ss. HasBound e budget q o ss) s t h
  answer_rises e (steady file observer parts constant whole) s t (inl h) = inl h
  answer_rises e (steady file observer parts constant whole) s t (inr (costing, of, inl h)) =
      inr (costing, of, inl (program_rise (Rises file) (Rises' file) (content file) s t (rise file) h))
  answer_rises e (steady file observer parts constant whole) s t (inr (costing, of, inr h)) = inr (costing, of, inr h)
  answer_rises e (leak file starts observer machine budget refused) s t h =
      leaks_rise e budget refused file starts observer s t h
  answer_rises e (tune file starts observer machine budget mark bits) s t h =
      prepares_rise file starts observer (λ p q o code ss. HasTune e budget mark bits q o ss) s t h
  answer_rises e (check file) s t (inl h) = inl (check_rise (Rises file) (Rises' file) (content file) s t (rise file) h)
  answer_rises e (check file) s t (inr h) = inr h
  answer_rises e (help command) s t h = h
  answer_rises e version s t h = h
