-- The headline, of one call: a run that is done, or whose budget is spent, has written what the run of an accepted
-- program tells, and the image of that program is sound.
use Rattle.std.specs.Prelude.{◌≡◌, ℕ, List, ◌∷◌, Option, None, IfSome, codes, if◌then◌else◌}
use Rattle.std.specs.Io.KnownBytes.{Appends}
use Rattle.clap.specs.Words.{fault_of, matches_of}
use Rattle.clap.specs.Walk.{is_empty}
use Rattle.label_lattice.specs.declared.label.Label.{Label}
use Rattle.mit_syntax.specs.Program.{Syntax}
use Rattle.timing_types.specs.Labelled.{LabelledProgram}
use Rattle.label_code.specs.Run.{run_from}
use Rattle.code_lower.specs.Lowered.{instrs_of}
use Rattle.cycle_machine.specs.Rest.{told_by}
use Rattle.start_file.specs.Starts.{StartValue}
use Rattle.tool_words.specs.declared.words.EnvName.{EnvName}
use Rattle.tool_words.specs.WordsRun.{run_app, run_given}
use Rattle.tool_texts.specs.declared.status.Status.{Status}
use Rattle.tool_texts.specs.declared.status.Status.TheVariants as status
use Rattle.tool_stages.specs.Stages.{Observes, FirstStart}
use Rattle.tool_stages.specs.Spelt.{TextSpells}
use Rattle.tool_stages.specs.Content.{Content}
use Rattle.tool_stages.specs.declared.envs.Environment.TheVariants.{Named}
use Rattle.tool_stages.specs.Envs.{environment}
use Rattle.tool_stages.specs.Accepted.{IsSound, TypesLeast}
use Rattle.mit_tool.specs.Answers.{HasTold}

-- what a run is asked for: its file, its starts, the environment, the budget and the observer
pub record RunAsked : Type 0 where
  pub file : List ℕ
  pub starts : Option (List ℕ)
  pub env : EnvName
  pub budget : ℕ
  pub observer : Option (List ℕ)

abbrev pub as_run : List ℕ → Option (List ℕ) → EnvName → ℕ → Option (List ℕ) → RunAsked
as_run file starts e budget observer = record { file = file; starts = starts; env = e; budget = budget; observer = observer }

-- what the words after `run` ask for, or that they are refused
abbrev pub run_after : List (List ℕ) → Option RunAsked
run_after words = if is_empty (fault_of run_app words) then run_given as_run (matches_of run_app words) else None

-- A file spells a program, and has the least of the labellings that type it; the image is sound, for runs that halt and for runs
-- that are cut; and the text is what the image's run from the first start tells up to the budget, as the observer sees it.
pub record IsSoundRun (content : Content) (r : RunAsked) (s : Status) (t : List ℕ) : Type 0 where
  pub program : Syntax
  pub spells : TextSpells (content r.file) program
  pub labelled : LabelledProgram
  pub types : TypesLeast program labelled
  pub sound : IsSound labelled
  pub observed : Option Label
  pub observes : Observes program.order r.observer observed
  pub start : StartValue
  pub first : FirstStart content r.starts program start
  pub tells : HasTold labelled observed
      (told_by (run_from (environment (Named r.env) labelled.program.order) (instrs_of labelled) r.budget
      (record { memory = start.memory; env = start.touches }))) s t

-- where a run is done or its budget is spent, the text that was written is of this kind
abbrev pub EndsRun : (Status → List ℕ → Type 0) → Option (List ℕ) → Option (List ℕ) → Status → Type 0
EndsRun Is old new status.Done = (t : List ℕ) × Is status.Done t × Appends old new t
EndsRun Is old new status.Budget = (t : List ℕ) × Is status.Budget t × Appends old new t
EndsRun Is old new s = Unit {0}

-- where the words are `run` and those of a run, the call ends so
abbrev pub RunsSoundly : Content → Option (List ℕ) → Option (List ℕ) → List (List ℕ) → Status → Type 0
RunsSoundly content old new words s = (after : List (List ℕ)) → words ≡ codes "run" ∷ after
    → IfSome (run_after after) (λ r. EndsRun (IsSoundRun content r) old new s)
