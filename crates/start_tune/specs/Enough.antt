-- Of one mitigate the cheapest first prediction that tells at most so many things.
use Rattle.std.specs.Prelude.{◌≡◌, ℕ, List, Bool}
use Rattle.label_lattice.specs.Order.{Order}
use Rattle.env_contract.specs.declared.place.Touch.{Touch}
use Rattle.env_contract.specs.Env.{Env}
use Rattle.label_code.specs.Shaped.{Code}
use Rattle.start_file.specs.Starts.{StartValue}
use Rattle.first_front.specs.declared.interval.Interval.{Interval}
use Rattle.first_front.specs.Intervals.{IsInterval}
use Rattle.first_front.specs.Enough.{IsEnough, NoneIsEnough}
use Rattle.start_tune.specs.Runs.{AreBest}

-- of the environment and of the one that a lattice and touches make
module _ {E : Type 0} (v : Env E) (made : Order → List Touch → E) where
  -- The interval begins with one of the best first predictions, which tells at most so many things; and of all first predictions
  -- from 1 to 2^40 with which the run from each start ends by T and which tell at most so many, none costs less.
  pub record IsCheapestFew (t : ℕ) (c : Code) (mark : ℕ) (marked : List Bool) (ss : List StartValue) (most : ℕ) (i : Interval) : Type 0 where
    pub choices : List Interval
    pub best : AreBest v made t c mark marked ss choices
    pub interval : IsInterval best.varied best.classes i
    pub enough : IsEnough best.varied best.classes t most i.first

  -- no first prediction from 1 to 2^40 with which the run from each start ends by T tells so little
  pub record NoneTellsFew (t : ℕ) (c : Code) (mark : ℕ) (marked : List Bool) (ss : List StartValue) (most : ℕ) : Type 0 where
    pub choices : List Interval
    pub best : AreBest v made t c mark marked ss choices
    pub none : NoneIsEnough best.varied best.classes t most

  -- There is one such interval at most, and none where no first prediction tells so little.
  abbrev pub OneCheapestFew : Type 0
  OneCheapestFew =
      (t : ℕ) (c : Code) (mark : ℕ) (marked : List Bool) (ss : List StartValue) (most : ℕ) (i : Interval) → IsCheapestFew t c mark marked ss most i →
      ((j : Interval) → IsCheapestFew t c mark marked ss most j → i ≡ j) × (NoneTellsFew t c mark marked ss most → ⊥)
