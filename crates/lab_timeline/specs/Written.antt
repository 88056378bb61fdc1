-- How far the lines of runs were written.
use Rattle.std.specs.Prelude.{◌≤◌, ◌<◌, ◌*◌, ◌^◌, ℕ, List, ◌++◌, length, take, Option, slice_index_or}
use Rattle.std.specs.Io.KnownBytes.{Appends}
use Rattle.std.specs.List.{AllZip}
use Rattle.tim_base.specs.Sinks.{AppendsPrefix}
use Rattle.label_lattice.specs.declared.label.Label.{Label}
use Rattle.timing_types.specs.Labelled.{LabelledProgram}
use Rattle.env_contract.specs.Env.{Env}
use Rattle.label_code.specs.Run.{Start}
use Rattle.label_code.specs.Shaped.{Code}
use Rattle.start_file.specs.Starts.{StartValue}
use Rattle.run_timeline.specs.declared.moment.Moment.{Moment}
use Rattle.run_timeline.specs.declared.tally.Tally.{Tally}
use Rattle.run_timeline.specs.Timeline.{IsTimeline}
use Rattle.run_timeline.specs.Printed.{end_of_run}
use Rattle.run_timeline.specs.Summary.{AreTallies}
use Rattle.tool_stages.specs.declared.envs.Environment.{Environment}
use Rattle.lab_runs.specs.Runs.{texts}
use Rattle.lab_timeline.specs.Timed.{Timed, IsTimed, run_lines, all_moments, AreRuns, AreTimelines}

-- a run of which these are the moments
abbrev pub timed_by : {E : Type 0} → Env E → Code → ℕ → Start E → List Moment → Timed
timed_by v code t s ms = record { moments = ms; end = end_of_run v code.instrs t s }

-- the lines of one run were written, and its mitigations are in the tallies
pub record WritesRun {E : Type 0} (v : Env E) (code : Code) (t : ℕ) (s : Start E) (q : LabelledProgram) (o : Option Label) (number : ℕ)
    (taken taken' : Option (List ℕ)) (old new : List Tally) : Type 0 where
  pub moments : List Moment
  pub timeline : IsTimeline v code.instrs t s moments
  pub written : Appends taken taken' (run_lines q o number (timed_by v code t s moments))
  pub tallied : (before : List Moment) → AreTallies before old → AreTallies (before ++ moments) new

-- a prefix of them was
pub record BreaksRun {E : Type 0} (v : Env E) (code : Code) (t : ℕ) (s : Start E) (q : LabelledProgram) (o : Option Label) (number : ℕ)
    (taken taken' : Option (List ℕ)) : Type 0 where
  pub moments : List Moment
  pub timeline : IsTimeline v code.instrs t s moments
  pub written : AppendsPrefix taken taken' (run_lines q o number (timed_by v code t s moments))

-- the lines of the runs from starts were written, and their mitigations are in the tallies
pub record WritesRuns (e : Environment) (t : ℕ) (q : LabelledProgram) (o : Option Label) (code : Code) (ss : List StartValue) (old new : Option (List ℕ))
    (tallies : List Tally) : Type 0 where
  pub runs : List Timed
  pub timed : AllZip (IsTimed e t q.program.order code) ss runs
  pub written : Appends old new (texts (run_lines q o) runs)
  pub tallied : AreTallies (all_moments runs) tallies

-- those of the first few
pub record WritesFew (e : Environment) (t : ℕ) (q : LabelledProgram) (o : Option Label) (code : Code) (ss : List StartValue) (old new : Option
    (List ℕ)) : Type 0 where
  pub count : ℕ
  pub text : List ℕ
  pub runs : AreRuns e t q o code (take count ss) text
  pub written : Appends old new text

-- a prefix of those
pub record BreaksFew (e : Environment) (t : ℕ) (q : LabelledProgram) (o : Option Label) (code : Code) (ss : List StartValue) (old new : Option
    (List ℕ)) : Type 0 where
  pub count : ℕ
  pub text : List ℕ
  pub runs : AreRuns e t q o code (take count ss) text
  pub written : AppendsPrefix old new text

-- all lines and those of the mitigates were written
pub record WritesAll (e : Environment) (t : ℕ) (q : LabelledProgram) (o : Option Label) (code : Code) (ss : List StartValue) (old new : Option
    (List ℕ)) : Type 0 where
  pub text : List ℕ
  pub timelines : AreTimelines e t q o code ss text
  pub written : Appends old new text

-- a prefix of them was
pub record BreaksAll (e : Environment) (t : ℕ) (q : LabelledProgram) (o : Option Label) (code : Code) (ss : List StartValue) (old new : Option
    (List ℕ)) : Type 0 where
  pub text : List ℕ
  pub timelines : AreTimelines e t q o code ss text
  pub written : AppendsPrefix old new text

-- after n runs each of at most 2^40 cycles
abbrev pub Counted : ℕ → List Tally → Type 0
Counted n ts = (k : ℕ) (d : Tally) → k < length ts
    → ((slice_index_or ts k d).ended ≤ n * 2 ^ 40) × ((slice_index_or ts k d).missed ≤ (slice_index_or ts k d).ended)
