-- How a call of `timeline` ends.
use Rattle.std.proofs.Common.{◌≡◌, ◌≢◌, ◌⊎◌, ℕ, List, [], Bool, Option, inl, inr, refl}
use Rattle.std.specs.Io.KnownBytes.{Appends}
use Rattle.tim_base.specs.Sinks.{AppendsPrefix}
use Rattle.label_lattice.specs.declared.label.Label.{Label}
use Rattle.timing_types.specs.Labelled.{LabelledProgram}
use Rattle.label_code.specs.Shaped.{Code}
use Rattle.start_file.specs.Starts.{StartValue}
use Rattle.tool_stages.specs.declared.envs.Environment.{Environment}
use Rattle.tool_texts.specs.declared.status.Status.{Status}
use Rattle.tool_texts.specs.declared.status.Status.TheVariants as status
use Rattle.tool_texts.specs.declared.stop.Stop.{Stop}
use Rattle.tool_texts.specs.Ends.{EndsBy, IsStop, status_of, stop_text}
use Rattle.tool_texts.specs.Texts.{memory_line}
use Rattle.tool_stages.specs.Content.{Content}
use Rattle.lab_runs.specs.Shown.{Shown, HasRuns, RunsStop}
use Rattle.lab_runs.proofs.EndLemmas.{runs_stop, runs_done, runs_broke_head, runs_broke, runs_broke_some, runs_short}
use Rattle.lab_timeline.specs.Timed.{AreRuns, AreTimelines, TellsTimelines, TimelinesBefore}
use Rattle.lab_timeline.specs.Written.{WritesFew, BreaksFew, WritesAll, BreaksAll}

-- the lines of no runs
no_runs : (e : Environment) (t : ℕ) (q : LabelledProgram) (o : Option Label) (code : Code) → AreRuns e t q o code [] []
no_runs e t q o code = record { runs = []; timed = tt; text = refl }

module _ (Rises : List ℕ → Type 0) (content : Content) (file starts : List ℕ) (observer : Option (List ℕ)) (e : Environment) (budget : ℕ) (refused : Bool) where
  abbrev Before : List ℕ → Type 0
  Before = TimelinesBefore content file starts observer e budget refused

  abbrev Answer : Status → List ℕ → Type 0
  Answer = TellsTimelines Rises content file starts observer e budget refused

  -- what stops before the runs
  pub timeline_stops : (old new : Option (List ℕ)) (stop : Stop) (r : Status) → IsStop (RunsStop refused Rises content file starts observer) stop
      → (r ≢ status.WriteFault → (r ≡ status_of stop) × Appends old new (stop_text stop))
      → (r ≡ status.WriteFault → AppendsPrefix old new (stop_text stop))
      → EndsBy old new Before Answer r
  timeline_stops = runs_stop refused Rises content file starts observer (AreRuns e budget) (AreTimelines e budget)

  module _ (x : Shown) (o : Option Label) (code : Code) (ss : List StartValue) (h : HasRuns refused content file starts observer x o code ss)
      (old mid : Option (List ℕ)) where
    -- a write failed before the runs
    pub timeline_broke_head : (new : Option (List ℕ)) → AppendsPrefix old new x.head → EndsBy old new Before Answer status.WriteFault
    timeline_broke_head new w =
        runs_broke_head refused Rises content file starts observer (AreRuns e budget) (AreTimelines e budget) x o code ss h old new
        (no_runs e budget x.labelled o code) w

    -- all lines are written
    pub timeline_done : (new : Option (List ℕ)) → Appends old mid x.head → WritesAll e budget x.labelled o code ss mid new
        → EndsBy old new Before Answer status.Done
    timeline_done new v w =
        runs_done refused Rises content file starts observer (AreRuns e budget) (AreTimelines e budget) x o code ss h old mid new w.text w.timelines v
        w.written

    -- memory was wanting after some runs
    pub timeline_short : (mid' new : Option (List ℕ)) (r : Status) → Appends old mid x.head → WritesFew e budget x.labelled o code ss mid mid'
        → (r ≢ status.WriteFault → (r ≡ status.Memory) × Appends mid' new memory_line) → (r ≡ status.WriteFault → AppendsPrefix mid' new memory_line)
        → EndsBy old new Before Answer r
    timeline_short mid' new r v w told prefix =
        runs_short refused Rises content file starts observer (AreRuns e budget) (AreTimelines e budget) x o code ss h old mid mid' new r w.count w.text
        w.runs v w.written told prefix

    -- a write failed
    pub timeline_broke : (new : Option (List ℕ)) → Appends old mid x.head
        → BreaksFew e budget x.labelled o code ss mid new ⊎ BreaksAll e budget x.labelled o code ss mid new
        → EndsBy old new Before Answer status.WriteFault
    timeline_broke new v (inl w) =
        runs_broke_some refused Rises content file starts observer (AreRuns e budget) (AreTimelines e budget) x o code ss h old mid new w.count w.text w.runs v
        w.written
    timeline_broke new v (inr w) =
        runs_broke refused Rises content file starts observer (AreRuns e budget) (AreTimelines e budget) x o code ss h old mid new w.text w.timelines v
        w.written
