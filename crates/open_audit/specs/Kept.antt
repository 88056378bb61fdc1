-- What is kept of the runs of a program's image from a list of starts, all of which must halt.
use Rattle.std.specs.Prelude.{◌≡◌, ◌<◌, ◌≤◌, ◌+◌, ◌++◌, ℕ, List, [], ◌∷◌, map, true, None, Some}
use Rattle.timing_types.specs.Labelled.{LabelledProgram}
use Rattle.env_contract.specs.Env.{Env}
use Rattle.label_code.specs.Machine.{Event}
use Rattle.label_code.specs.Run.{Start}
use Rattle.code_lower.specs.Lowered.{lowered}
use Rattle.leak_bound.specs.Records.{Each}
use Rattle.leak_bound.specs.Sound.{Halts}
use Rattle.leak_audit.specs.declared.observe.Observed.{Observed}
use Rattle.leak_audit.specs.declared.survey.SurveyFault.{SurveyFault}
use Rattle.leak_audit.specs.declared.survey.SurveyFault.TheVariants.{Unfinished, TooMuch, Memory}
use Rattle.leak_audit.specs.Observed.{sequence_of}
use Rattle.leak_audit.specs.Kept.{AreKinds}
use Rattle.leak_audit.specs.Surveyed.{sequence_from, shown_by_all, unfinished}
use Rattle.open_audit.specs.declared.runs.Kept.{Kept}

-- what one run more makes of what is kept of the runs before it
pub record Takes (old : Kept) (w : Observed) (new : Kept) : Type 0 where
  pub goes : unfinished true w.end ≡ None
  pub kinds : (seqs : List (List Event)) → AreKinds seqs old.kinds → AreKinds (seqs ++ sequence_of w.tally.events ∷ []) new.kinds
  pub shown : new.shown ≡ old.shown + w.tally.shown
  pub few : new.shown ≤ 16777216

-- why it is refused
abbrev pub Refuses : Kept → ℕ → Observed → SurveyFault → Type 0
Refuses old run w (Unfinished k c) = (k ≡ run) × (unfinished true w.end ≡ Some c)
Refuses old run w (TooMuch n) = (unfinished true w.end ≡ None) × (n ≡ old.shown + w.tally.shown) × (16777216 < n)
Refuses old run w Memory = Unit {0}

-- none is refused: all have halted by T, they show few enough assignments, and what is seen of each is kept
pub record IsKept {E : Type 0} (v : Env E) (p : LabelledProgram) (o t : ℕ) (ss : List (Start E)) (k : Kept) : Type 0 where
  pub kinds : AreKinds (map (sequence_from v p o t) ss) k.kinds
  pub halts : Each (Halts v (lowered p).instrs t) ss
  pub few : shown_by_all v p o t ss ≤ 16777216
