-- What `leak` tells of the starts of a space, and what stops it.
use Rattle.std.specs.Prelude.{◌≡◌, ◌<◌, ℕ, List, Option, Some, None}
use Rattle.label_lattice.specs.declared.label.Label.{Label}
use Rattle.timing_types.specs.Labelled.{LabelledProgram}
use Rattle.label_code.specs.Machine.{Event}
use Rattle.label_code.specs.Shaped.{Code}
use Rattle.code_lower.specs.Lowered.{lowered}
use Rattle.cycle_machine.specs.declared.end.RunEnd.{RunEnd}
use Rattle.history_bound.specs.Over.{AnyHistory, history_made}
use Rattle.leak_classes.specs.declared.fault.WalkFault.{WalkFault}
use Rattle.leak_classes.specs.declared.fault.WalkFault.TheVariants.{Unfinished, TooMuch}
use Rattle.class_counts.specs.Tally.{total}
use Rattle.leak_classes.specs.Classes.{Classes}
use Rattle.leak_classes.specs.Walk.{AreClasses, IsWalkFault}
use Rattle.space_starts.specs.Space.{SpaceValue, size_of, IsSpaceFor}
use Rattle.space_walk.specs.Shown.{shown_at, end_at, one}
use Rattle.space_walk.specs.Agreeing.{IsFirstRanging, NoneRanges, AllAgree}
use Rattle.tool_stages.specs.declared.envs.Environment.{Environment}
use Rattle.tool_texts.specs.declared.status.Status.{Status}
use Rattle.tool_texts.specs.declared.status.Status.TheVariants as status
use Rattle.tool_texts.specs.Reports.{unfinished_line, events_line}
use Rattle.tool_stages.specs.Stages.{Then}
use Rattle.tool_stages.specs.Envs.{environment}
use Rattle.space_leak.specs.Text.{IsSpaceText, ranging_line}

-- what an observer sees, up to T in an environment, of the run from the start with a number, from 0
abbrev pub shown_in : Environment → ℕ → LabelledProgram → ℕ → SpaceValue → ℕ → List Event
shown_in e t q o s = shown_at (environment e q.program.order) history_made q o t s

-- how that run has ended
abbrev pub end_in : Environment → ℕ → LabelledProgram → SpaceValue → ℕ → RunEnd
end_in e t q s = end_at (environment e q.program.order) history_made q t s

-- each variable that the observer sees has one value, and these are the classes of all starts
pub record HasClasses (e : Environment) (t : ℕ) (q : LabelledProgram) (o : ℕ) (s : SpaceValue) (k : Classes) : Type 0 where
  pub agree : NoneRanges q o s.memory
  pub classes : AreClasses (shown_in e t q o s) (end_in e t q s) one 0 (size_of s) k

-- why there are no classes
pub record HasWalkFault (e : Environment) (t : ℕ) (q : LabelledProgram) (o : ℕ) (s : SpaceValue) (f : WalkFault) : Type 0 where
  pub agree : NoneRanges q o s.memory
  pub fault : IsWalkFault (shown_in e t q o s) (end_in e t q s) one 0 (size_of s) f

-- a variable that the observer sees has two values or more; else a run has not halted, or too much is shown
abbrev pub SpaceStops : Environment → ℕ → LabelledProgram → Label → SpaceValue → Status → List ℕ → Type 0
SpaceStops e t q l s status.Disagree x = (v : ℕ) × IsFirstRanging q l.number s.memory v × (x ≡ ranging_line q.program v)
SpaceStops e t q l s status.Unfinished x =
    (n : ℕ) × (cycle : ℕ) × HasWalkFault e t q l.number s (Unfinished n cycle) × (x ≡ unfinished_line n cycle)
SpaceStops e t q l s status.TooLong x = (count : ℕ) × HasWalkFault e t q l.number s (TooMuch count) × (x ≡ events_line count)
SpaceStops e t q l s _ x = ⊥

-- the text of the classes, or what stops it
abbrev pub HasSpaceLeak : Environment → ℕ → LabelledProgram → Option Label → SpaceValue → Status → List ℕ → Type 0
HasSpaceLeak e t q None s = λ st x. ⊥
HasSpaceLeak e t q (Some l) s =
    Then (SpaceStops e t q l s) (HasClasses e t q l.number s) (λ k st x. (st ≡ status.Done) × IsSpaceText e q l t s k x)

-- a program with its image, an observer, and a space
pub record CanWalk (q : LabelledProgram) (l : Label) (code : Code) (s : SpaceValue) : Type 0 where
  pub image : code ≡ lowered q
  pub observer : l.number < q.program.order.size
  pub space : IsSpaceFor q.program s

-- Where there are classes, all starts agree for the observer, and each of them is in one class.
pub record AreWhole (e : Environment) (t : ℕ) (q : LabelledProgram) (o : ℕ) (s : SpaceValue) (k : Classes) : Type 0 where
  pub agree : AllAgree (environment e q.program.order) AnyHistory history_made q o s
  pub all : total k.seen ≡ size_of s

abbrev pub AllAreWhole : Type 0
AllAreWhole = (e : Environment) (t : ℕ) (q : LabelledProgram) (o : ℕ) (s : SpaceValue) (k : Classes) → HasClasses e t q o s k → AreWhole e t q o s k
