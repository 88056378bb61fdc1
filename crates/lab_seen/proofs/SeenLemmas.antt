-- How a call of `seen` ends.
use Rattle.std.proofs.Common.{◌≡◌, ◌≢◌, ℕ, List, take, Bool, Option, Some, refl, subst}
use Rattle.std.specs.Io.KnownBytes.{Appends}
use Rattle.tim_base.specs.Sinks.{AppendsPrefix}
use Rattle.label_lattice.specs.declared.label.Label.{Label}
use Rattle.timing_types.specs.Labelled.{LabelledProgram}
use Rattle.label_code.specs.Shaped.{Code}
use Rattle.start_file.specs.Starts.{StartValue}
use Rattle.tool_stages.specs.declared.envs.Environment.{Environment}
use Rattle.tool_texts.specs.declared.status.Status.{Status}
use Rattle.tool_texts.specs.declared.status.Status.TheVariants as status
use Rattle.tool_texts.specs.declared.stop.Stop.{Stop}
use Rattle.tool_texts.specs.Ends.{EndsBy, IsStop, status_of, stop_text}
use Rattle.tool_texts.specs.Texts.{memory_line}
use Rattle.tool_stages.specs.Content.{Content}
use Rattle.lab_runs.specs.CanRun.{CanRun}
use Rattle.lab_runs.specs.Runs.{texts, WritesSome}
use Rattle.lab_runs.specs.Shown.{Shown, HasRuns, RunsStop}
use Rattle.lab_runs.proofs.EndLemmas.{runs_stop, runs_done, runs_broke_head, runs_broke, runs_short}
use Rattle.lab_seen.specs.Seen.{line_in, AreLines, IsSeen, SeenBefore}

-- what runs ask, of the observer that is found
pub can_run_for : (q : LabelledProgram) (o : Option Label) (l : Label) (code : Code) (ss : List StartValue) → o ≡ Some l → CanRun q o code ss
    → CanRun q (Some l) code ss
can_run_for q o l code ss is h = subst (λ (z : Option Label). CanRun q z code ss) is h

module _ (Rises : List ℕ → Type 0) (content : Content) (file starts observer : List ℕ) (e : Environment) (budget : ℕ) (refused : Bool) where
  abbrev Before : List ℕ → Type 0
  Before = SeenBefore content file starts observer e budget refused

  abbrev Answer : Status → List ℕ → Type 0
  Answer = IsSeen Rises content file starts observer e budget refused

  -- what stops before the runs
  pub seen_stops : (old new : Option (List ℕ)) (stop : Stop) (r : Status)
      → IsStop (RunsStop refused Rises content file starts (Some observer)) stop
      → (r ≢ status.WriteFault → (r ≡ status_of stop) × Appends old new (stop_text stop))
      → (r ≡ status.WriteFault → AppendsPrefix old new (stop_text stop))
      → EndsBy old new Before Answer r
  seen_stops = runs_stop refused Rises content file starts (Some observer) (AreLines e budget) (AreLines e budget)

  module _ (x : Shown) (o : Option Label) (l : Label) (code : Code) (ss : List StartValue) (names : o ≡ Some l)
      (h : HasRuns refused content file starts (Some observer) x o code ss) where
    abbrev lines : List ℕ
    lines = texts (line_in e budget x.labelled l code) ss

    at : HasRuns refused content file starts (Some observer) x (Some l) code ss
    at = subst (λ (z : Option Label). HasRuns refused content file starts (Some observer) x z code ss) names h

    -- all lines are written
    pub seen_done : (old mid new : Option (List ℕ)) → Appends old mid x.head → Appends mid new lines → EndsBy old new Before Answer status.Done
    seen_done old mid new w v =
        runs_done refused Rises content file starts (Some observer) (AreLines e budget) (AreLines e budget) x (Some l) code ss at old mid new lines refl w v

    -- a write failed before the runs
    pub seen_broke_head : (old new : Option (List ℕ)) → AppendsPrefix old new x.head → EndsBy old new Before Answer status.WriteFault
    seen_broke_head old new w =
        runs_broke_head refused Rises content file starts (Some observer) (AreLines e budget) (AreLines e budget) x (Some l) code ss at old new refl w

    -- a write failed
    pub seen_broke : (old mid new : Option (List ℕ)) → Appends old mid x.head → AppendsPrefix mid new lines → EndsBy old new Before Answer status.WriteFault
    seen_broke old mid new w v =
        runs_broke refused Rises content file starts (Some observer) (AreLines e budget) (AreLines e budget) x (Some l) code ss at old mid new lines refl w v

    -- memory was wanting after some lines
    pub seen_short : (old mid mid' new : Option (List ℕ)) (r : Status) → Appends old mid x.head
        → WritesSome mid mid' (line_in e budget x.labelled l code) ss
        → (r ≢ status.WriteFault → (r ≡ status.Memory) × Appends mid' new memory_line) → (r ≡ status.WriteFault → AppendsPrefix mid' new memory_line)
        → EndsBy old new Before Answer r
    seen_short old mid mid' new r w some told prefix =
        runs_short refused Rises content file starts (Some observer) (AreLines e budget) (AreLines e budget) x (Some l) code ss at old mid mid' new r some.runs
        (texts (line_in e budget x.labelled l code) (take some.runs ss)) refl w some.written told prefix
