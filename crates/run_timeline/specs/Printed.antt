-- What printing a run's timeline leaves.
use Rattle.std.specs.Prelude.{ℕ, List, ◌++◌, Option}
use Rattle.std.specs.Io.KnownBytes.{Appends}
use Rattle.tim_base.specs.Sinks.{AppendsPrefix}
use Rattle.label_lattice.specs.declared.label.Label.{Label}
use Rattle.timing_types.specs.Labelled.{LabelledProgram}
use Rattle.env_contract.specs.Env.{Env}
use Rattle.label_code.specs.declared.code.Instr.{Instr}
use Rattle.label_code.specs.Run.{Start, run_from}
use Rattle.cycle_machine.specs.declared.end.RunEnd.{RunEnd}
use Rattle.cycle_machine.specs.Rest.{told_by}
use Rattle.run_timeline.specs.declared.moment.Moment.{Moment}
use Rattle.run_timeline.specs.declared.tally.Tally.{Tally}
use Rattle.run_timeline.specs.Timeline.{IsTimeline}
use Rattle.run_timeline.specs.Text.{timeline_text}
use Rattle.run_timeline.specs.Summary.{AreTallies}

-- the end of a run to T
abbrev pub end_of_run : {E : Type 0} → Env E → List Instr → ℕ → Start E → RunEnd
end_of_run v code t s = (told_by (run_from v code t s)).end

-- the whole text of the timeline is written, and its mitigations are in the tallies
pub record Printed {E : Type 0} (v : Env E) (code : List Instr) (t : ℕ) (s : Start E) (p : LabelledProgram) (o : Option Label) (taken taken' : Option (List ℕ))
    (old new : List Tally) : Type 0 where
  pub moments : List Moment
  pub timeline : IsTimeline v code t s moments
  pub written : Appends taken taken' (timeline_text p o moments (end_of_run v code t s))
  pub tallied : (before : List Moment) → AreTallies before old → AreTallies (before ++ moments) new

-- a prefix of it is written
pub record PrintedPart {E : Type 0} (v : Env E) (code : List Instr) (t : ℕ) (s : Start E) (p : LabelledProgram) (o : Option Label)
    (taken taken' : Option (List ℕ)) : Type 0 where
  pub moments : List Moment
  pub timeline : IsTimeline v code t s moments
  pub written : AppendsPrefix taken taken' (timeline_text p o moments (end_of_run v code t s))
