-- What is told of the mitigations of the runs of a program, and of all runs together.
use Rattle.std.specs.Prelude.{◌≡◌, ℕ, List, ◌++◌, flat_map, length, Bool, Option}
use Rattle.std.specs.List.{AllZip}
use Rattle.label_lattice.specs.declared.label.Label.{Label}
use Rattle.label_lattice.specs.Order.{Order}
use Rattle.mit_syntax.specs.Plan.{mitigates}
use Rattle.mit_syntax.specs.Program.{plan_of}
use Rattle.timing_types.specs.Labelled.{LabelledProgram}
use Rattle.label_code.specs.Shaped.{Code}
use Rattle.history_bound.specs.Over.{history_made}
use Rattle.start_file.specs.Starts.{StartValue}
use Rattle.cycle_machine.specs.declared.end.RunEnd.{RunEnd}
use Rattle.leak_audit.specs.Agreement.{start_of}
use Rattle.run_timeline.specs.declared.moment.Moment.{Moment}
use Rattle.run_timeline.specs.declared.tally.Tally.{Tally}
use Rattle.run_timeline.specs.Places.{places}
use Rattle.run_timeline.specs.Timeline.{IsTimeline}
use Rattle.run_timeline.specs.Text.{run_text, timeline_text}
use Rattle.run_timeline.specs.Summary.{AreTallies, summary_text}
use Rattle.tool_stages.specs.declared.envs.Environment.{Environment}
use Rattle.tool_texts.specs.declared.status.Status.{Status}
use Rattle.tool_stages.specs.Content.{Content}
use Rattle.tool_stages.specs.Envs.{environment, told_in}
use Rattle.lab_runs.specs.Runs.{texts}
use Rattle.lab_runs.specs.Shown.{ShowsRuns, ShowsBefore}

-- what the run of an image from a start tells up to T, in an environment
abbrev pub IsTimelineIn : Environment → ℕ → Order → Code → StartValue → List Moment → Type 0
IsTimelineIn e t o code s ms = IsTimeline (environment e o) code.instrs t (start_of history_made o s) ms

-- a run: what it told, and how it ended
pub record Timed : Type 0 where
  pub moments : List Moment
  pub end : RunEnd

pub record IsTimed (e : Environment) (t : ℕ) (o : Order) (code : Code) (s : StartValue) (run : Timed) : Type 0 where
  pub timeline : IsTimelineIn e t o code s run.moments
  pub ends : run.end ≡ (told_in e o code s t).end

-- `run R`, and the lines of the run
abbrev pub run_lines : LabelledProgram → Option Label → ℕ → Timed → List ℕ
run_lines q o r run = run_text r ++ timeline_text q o run.moments run.end

-- what all runs told
abbrev pub all_moments : List Timed → List Moment
all_moments runs = flat_map (λ run. run.moments) runs

-- the lines of the runs from starts, in order
pub record AreRuns (e : Environment) (t : ℕ) (q : LabelledProgram) (o : Option Label) (code : Code) (ss : List StartValue) (x : List ℕ) : Type 0 where
  pub runs : List Timed
  pub timed : AllZip (IsTimed e t q.program.order code) ss runs
  pub text : x ≡ texts (run_lines q o) runs

-- the lines of the runs, and then a line for each mitigate of the text, of the mitigations of all runs
pub record AreTimelines (e : Environment) (t : ℕ) (q : LabelledProgram) (o : Option Label) (code : Code) (ss : List StartValue) (x : List ℕ) : Type 0 where
  pub runs : List Timed
  pub timed : AllZip (IsTimed e t q.program.order code) ss runs
  pub tallies : List Tally
  pub count : length tallies ≡ mitigates (plan_of q.program)
  pub tallied : AreTallies (all_moments runs) tallies
  pub text : x ≡ texts (run_lines q o) runs ++ summary_text (places (plan_of q.program)) tallies

-- the answer of `timeline`, where refused programs are asked for and where not
abbrev pub TellsTimelines : (List ℕ → Type 0) → Content → List ℕ → List ℕ → Option (List ℕ) → Environment → ℕ → Bool → Status → List ℕ → Type 0
TellsTimelines Rises content file starts observer e t refused = ShowsRuns refused Rises content file starts observer (AreTimelines e t)

-- what may stand before the line for memory
abbrev pub TimelinesBefore : Content → List ℕ → List ℕ → Option (List ℕ) → Environment → ℕ → Bool → List ℕ → Type 0
TimelinesBefore content file starts observer e t refused = ShowsBefore refused content file starts observer (AreRuns e t)
