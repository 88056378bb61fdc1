-- What is known of the runs of a program's image from a list of starts.
use Rattle.std.specs.Prelude.{◌≡◌, ◌<◌, ◌≤◌, ◌+◌, ◌++◌, ℕ, List, [], ◌∷◌, max, length, map, Bool, true, false, cond, nat_eq, Option, None, Some}
use Rattle.mit_syntax.specs.Program.{plan_of}
use Rattle.timing_types.specs.Labelled.{LabelledProgram, order_of, labels_of, levels_of}
use Rattle.env_contract.specs.Env.{Env}
use Rattle.label_code.specs.Machine.{Machine, Event}
use Rattle.label_code.specs.Run.{Start, run_from}
use Rattle.code_lower.specs.Lowered.{lowered}
use Rattle.cycle_machine.specs.declared.end.RunEnd.{RunEnd}
use Rattle.cycle_machine.specs.declared.end.RunEnd.TheVariants.{Halted, Limit}
use Rattle.leak_bound.specs.Relevant.{is_relevant, begun_count}
use Rattle.leak_bound.specs.Records.{Each}
use Rattle.leak_bound.specs.Sound.{seen_from, Halts, most_ended}
use Rattle.leak_audit.specs.declared.observe.Observed.{Observed}
use Rattle.leak_audit.specs.declared.survey.Survey.{Survey}
use Rattle.leak_audit.specs.declared.survey.SurveyFault.{SurveyFault}
use Rattle.leak_audit.specs.declared.survey.SurveyFault.TheVariants.{Unfinished, TooMuch, Memory}
use Rattle.leak_audit.specs.Observed.{sequence_of}
use Rattle.leak_audit.specs.Kept.{AreKinds}

-- whether the mitigate with a mark is relevant for an observer of a program
abbrev pub relevant_for : LabelledProgram → ℕ → ℕ → Bool
relevant_for p o = is_relevant (order_of p) (labels_of p) (levels_of p) o (plan_of p.program)

module _ {E : Type 0} (v : Env E) (p : LabelledProgram) where
  -- the run to T from a start
  abbrev pub run_of : ℕ → Start E → Machine E
  run_of t s = run_from v (lowered p).instrs t s

  -- what an observer sees of it
  abbrev pub sequence_from : ℕ → ℕ → Start E → List Event
  sequence_from o t s = seen_from v (order_of p) (labels_of p) (lowered p).instrs o t s

  -- how many assignments it shows, and how many all runs of a list do
  abbrev pub shown_by : ℕ → ℕ → Start E → ℕ
  shown_by o t s = length (sequence_from o t s)

  abbrev pub shown_by_all : ℕ → ℕ → List (Start E) → ℕ
  shown_by_all o t [] = 0
  shown_by_all o t (s ∷ ss) = shown_by o t s + shown_by_all o t ss

  -- how many runs have halted by T
  abbrev pub halted_count : ℕ → List (Start E) → ℕ
  halted_count t [] = 0
  halted_count t (s ∷ ss) = cond (run_of t s).halted 1 0 + halted_count t ss

  -- how many relevant mitigations began in the first run
  abbrev pub begun_first : ℕ → ℕ → List (Start E) → ℕ
  begun_first o t [] = 0
  begun_first o t (s ∷ ss) = begun_count (relevant_for p o) (run_of t s).core.log

  -- Why a run is refused that comes after these: it must halt by T and has not, and this is its number, from 1,
  -- and its clock; or else so many assignments are shown up to and with it, more than 16,777,216.
  abbrev pub IsRefused : ℕ → ℕ → Bool → List (Start E) → Start E → SurveyFault → Type 0
  IsRefused o t must before s (Unfinished run cycle) =
      (must ≡ true) × ((run_of t s).halted ≡ false) × (run ≡ length before + 1) × (cycle ≡ (run_of t s).core.clock)
  IsRefused o t must before s (TooMuch count) =
      (must ≡ true → (run_of t s).halted ≡ true) × (count ≡ shown_by_all o t before + shown_by o t s) × (16777216 < count)
  IsRefused o t must before s Memory = ⊥

  -- the first run that is refused, none before it being so, and why
  pub record IsFirstRefused (o t : ℕ) (must : Bool) (ss : List (Start E)) (f : SurveyFault) : Type 0 where
    pub before : List (Start E)
    pub refused : Start E
    pub after : List (Start E)
    pub are : ss ≡ before ++ refused ∷ after
    pub halt : must ≡ true → Each (Halts v (lowered p).instrs t) before
    pub few : shown_by_all o t before ≤ 16777216
    pub why : IsRefused o t must before refused f

  abbrev pub IsSurveyFault : ℕ → ℕ → Bool → List (Start E) → SurveyFault → Type 0
  IsSurveyFault o t must ss (Unfinished run cycle) = IsFirstRefused o t must ss (Unfinished run cycle)
  IsSurveyFault o t must ss (TooMuch count) = IsFirstRefused o t must ss (TooMuch count)
  IsSurveyFault o t must ss Memory = Unit {0}

  -- none is refused
  pub record IsSurvey (o t : ℕ) (must : Bool) (ss : List (Start E)) (r : Survey) : Type 0 where
    pub kinds : AreKinds (map (sequence_from o t) ss) r.kinds
    pub halts : must ≡ true → Each (Halts v (lowered p).instrs t) ss
    pub few : shown_by_all o t ss ≤ 16777216
    pub shown : r.shown ≡ shown_by_all o t ss
    pub halted : r.halted ≡ halted_count t ss
    pub begun : r.begun ≡ begun_first o t ss
    pub ended : r.ended ≡ most_ended v (lowered p).instrs (relevant_for p o) t ss
    pub begun_by : r.begun ≤ t
    pub ended_by : r.ended ≤ t

-- the clock of a run that must halt and has not
abbrev pub unfinished : Bool → RunEnd → Option ℕ
unfinished must (Halted c) = None
unfinished must (Limit c) = cond must (Some c) None

abbrev pub halts : RunEnd → ℕ
halts (Halted c) = 1
halts (Limit c) = 0

abbrev pub of_first : ℕ → ℕ → ℕ → ℕ
of_first run count before = cond (nat_eq run 1) count before

-- what one run more makes of what is known of the runs before it
pub record Takes (old : Survey) (run : ℕ) (must : Bool) (w : Observed) (new : Survey) : Type 0 where
  pub goes : unfinished must w.end ≡ None
  pub kinds : (seqs : List (List Event)) → AreKinds seqs old.kinds → AreKinds (seqs ++ sequence_of w.tally.events ∷ []) new.kinds
  pub shown : new.shown ≡ old.shown + w.tally.shown
  pub few : new.shown ≤ 16777216
  pub begun : new.begun ≡ of_first run w.tally.begun old.begun
  pub ended : new.ended ≡ max old.ended w.tally.ended
  pub halted : new.halted ≡ old.halted + halts w.end

-- why it is refused
abbrev pub Refuses : Survey → ℕ → Bool → Observed → SurveyFault → Type 0
Refuses old run must w (Unfinished k c) = (k ≡ run) × (unfinished must w.end ≡ Some c)
Refuses old run must w (TooMuch n) = (unfinished must w.end ≡ None) × (n ≡ old.shown + w.tally.shown) × (16777216 < n)
Refuses old run must w Memory = Unit {0}
