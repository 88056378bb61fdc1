-- The runs of code from starts, whatever the first prediction of one mitigate is, and the best choices of it.
use Rattle.std.specs.Prelude.{◌≡◌, ◌<◌, ℕ, List, Bool, All, length}
use Rattle.std.specs.List.{AllZip, IsAmong}
use Rattle.label_lattice.specs.Order.{Order}
use Rattle.env_contract.specs.declared.place.Touch.{Touch}
use Rattle.env_contract.specs.Env.{Env}
use Rattle.label_code.specs.Machine.{start}
use Rattle.label_code.specs.Shaped.{Code}
use Rattle.start_file.specs.Starts.{StartValue}
use Rattle.first_replay.specs.Replay.{Entry}
use Rattle.entry_run.specs.Runs.{Tells, IsTooLong}
use Rattle.first_front.specs.declared.class.Class.{Class}
use Rattle.first_front.specs.declared.class.Varied.{Varied}
use Rattle.first_front.specs.declared.interval.Interval.{Interval}
use Rattle.first_front.specs.Intervals.{IsTooLong as EndsTooLate}
use Rattle.first_front.specs.Front.{IsFront}
use Rattle.first_image.specs.Tuned.{IsPlaceOf, numbers_in}
use Rattle.entry_classes.specs.Classes.{AreClasses}

-- a start has a value for each variable of the code, and touches under its labels
pub record Fits (c : Code) (s : StartValue) : Type 0 where
  pub memory : length s.memory ≡ c.variables
  pub touches : All (λ x. x.label.number < c.order.size) s.touches

-- of the environment and of the one that a lattice and touches make
module _ {E : Type 0} (v : Env E) (made : Order → List Touch → E) where
  -- these are the entries of the run from a start; without the waits of its mitigations it takes at most T cycles
  abbrev pub IsRun : ℕ → Code → StartValue → List Entry → Type 0
  IsRun t c s es = Tells v c.instrs t (start s.memory (made c.order s.touches)) es

  -- it takes more than T cycles, whatever first predictions are
  abbrev pub IsUnending : ℕ → Code → StartValue → Type 0
  IsUnending t c s = IsTooLong v c.instrs t (start s.memory (made c.order s.touches))

  -- the run from one of the starts does
  abbrev pub OneIsUnending : ℕ → Code → List StartValue → Type 0
  OneIsUnending t c ss = (s : StartValue) × IsAmong ss s × IsUnending t c s

  -- classes of the starts by what their runs do
  pub record AreRunClasses (t : ℕ) (c : Code) (ss : List StartValue) (cs : List Class) : Type 0 where
    pub runs : List (List Entry)
    pub each : AllZip (IsRun t c) ss runs
    pub classes : AreClasses runs cs

-- the numbers that the code pushes, of which that of the mitigate with a mark is varied, and the marks that are told apart
pub record IsVaried (c : Code) (mark : ℕ) (marked : List Bool) (x : Varied) : Type 0 where
  pub place : IsPlaceOf c.instrs mark x.place
  pub written : x.written.now ≡ numbers_in c.instrs
  pub relevant : x.relevant.now ≡ marked

module _ {E : Type 0} (v : Env E) (made : Order → List Touch → E) where
  -- The intervals that begin with the best first predictions of the mitigate with a mark, in ascending order: of all first
  -- predictions from 1 to 2^40 with which the run from each start ends by T, none of the others tells as little and costs
  -- as little. What is told is how many different lists the runs have of miss counts of the mitigates with the marks of a list.
  pub record AreBest (t : ℕ) (c : Code) (mark : ℕ) (marked : List Bool) (ss : List StartValue) (is : List Interval) : Type 0 where
    pub varied : Varied
    pub classes : List Class
    pub at : IsVaried c mark marked varied
    pub runs : AreRunClasses v made t c ss classes
    pub front : IsFront varied classes t is

  -- with one of the first predictions from 1 to 2^40 the run from a start ends after cycle 2^64 - 1
  pub record IsTooLate (t : ℕ) (c : Code) (mark : ℕ) (marked : List Bool) (ss : List StartValue) : Type 0 where
    pub varied : Varied
    pub classes : List Class
    pub at : IsVaried c mark marked varied
    pub runs : AreRunClasses v made t c ss classes
    pub late : EndsTooLate varied classes

  -- There is one list of best choices, and none where a run is too long, without its waits or with a first prediction.
  abbrev pub OneBest : Type 0
  OneBest =
      (t : ℕ) (c : Code) (mark : ℕ) (marked : List Bool) (ss : List StartValue) (is : List Interval) → AreBest t c mark marked ss is →
      ((js : List Interval) → AreBest t c mark marked ss js → is ≡ js)
      × (OneIsUnending v made t c ss → ⊥)
      × (IsTooLate t c mark marked ss → ⊥)
