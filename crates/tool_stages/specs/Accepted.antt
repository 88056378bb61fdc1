-- What is true of every accepted program, and what is told of it.
use Rattle.std.specs.Prelude.{◌≡◌, ℕ, List, Option, Bool, true, false}
use Rattle.env_contract.specs.Env.{Env}
use Rattle.mit_syntax.specs.Plan.{count, mitigates}
use Rattle.mit_syntax.specs.Program.{Syntax, plan_of}
use Rattle.timing_types.specs.Labelling.{Labelling}
use Rattle.timing_types.specs.Labelled.{LabelledProgram, labels_of, levels_of, HasType}
use Rattle.label_infer.specs.Least.{Labels, Below}
use Rattle.code_lower.specs.Lowered.{instrs_of}
use Rattle.env_contract.specs.declared.place.Touch.{Touch}
use Rattle.history_bound.specs.Over.{AnyHistory}
use Rattle.leak_bound.specs.Sound.{Sound, CutSound}
use Rattle.leak_bound.specs.Source.{IsTypedWith}
use Rattle.tool_texts.specs.declared.status.Status.{Status}
use Rattle.tool_texts.specs.declared.status.Status.TheVariants as status
use Rattle.tool_texts.specs.Texts.{accepted_line}
use Rattle.tool_stages.specs.declared.envs.Environment.{Environment}
use Rattle.tool_stages.specs.Stages.{Rechecks}
use Rattle.tool_stages.specs.Spelt.{TextSpells}
use Rattle.tool_stages.specs.Envs.{IsPartitioned, environment}

-- The image of a labelled program is sound in an environment, for runs that halt and for runs that are cut. Its
-- source is the program that is labelled, without its labels.
pub record IsSoundIn (v : Env (List Touch)) (q : LabelledProgram) : Type 0 where
  pub halted : Sound v q.program.order (AnyHistory q.program.order) (labels_of q) (levels_of q) (instrs_of q) (plan_of q.program)
  pub cut : CutSound v q.program.order (AnyHistory q.program.order) (labels_of q) (levels_of q) (instrs_of q) (plan_of q.program)

-- it is in each environment of a machine with partitions, as those are that `--env` names
abbrev pub IsSound : LabelledProgram → Type 0
IsSound q = (e : Environment) → IsPartitioned e → IsSoundIn (environment e q.program.order) q

-- every program is, with each labelling that types it, the least one or another
abbrev pub TypedAreSound : Type 0
TypedAreSound = (q : LabelledProgram) → IsTypedWith q → IsSound q

-- the program with the least of the labellings that type it
pub record TypesLeast (p : Syntax) (q : LabelledProgram) : Type 0 where
  pub program : q.program ≡ p
  pub labels : Labels p q.labels
  pub typed : HasType q
  pub least : (l : Labelling) → Labels p l → HasType (record { program = p; labels = l }) → Below p q.labels l

-- the program of a file is accepted: with the least of the labellings that type it, it is one of those that are sound
pub record IsAccepted (content : Option (Option (List ℕ))) : Type 0 where
  pub program : Syntax
  pub spells : TextSpells content program
  pub labelled : LabelledProgram
  pub types : TypesLeast program labelled
  pub typed : IsTypedWith labelled

-- the labelling that the certificate in another file holds types the program of a file, and it is sound with this one too
pub record IsRechecked (content certificate : Option (Option (List ℕ))) : Type 0 where
  pub program : Syntax
  pub spells : TextSpells content program
  pub labelled : LabelledProgram
  pub rechecks : Rechecks certificate program labelled
  pub typed : IsTypedWith labelled

-- a program is accepted: how many commands and mitigates it has
abbrev pub HasChecked : Syntax → Status → List ℕ → Type 0
HasChecked p s t = (s ≡ status.Done) × (t ≡ accepted_line (count (plan_of p)) (mitigates (plan_of p)))

-- a command that wants its program typed ends so past the typing alone; in each other status it may end before
abbrev pub is_past_typing : Status → Bool
is_past_typing status.Done = true
is_past_typing status.Starts = true
is_past_typing status.Budget = true
is_past_typing status.Disagree = true
is_past_typing status.Unfinished = true
is_past_typing s = false
