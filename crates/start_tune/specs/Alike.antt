-- What runs over caches tell of the best choices is what runs over histories tell.
use Rattle.std.specs.Prelude.{ℕ, List, Bool, All}
use Rattle.label_lattice.specs.Order.{Order}
use Rattle.env_contract.specs.declared.place.Touch.{Touch}
use Rattle.env_contract.specs.Env.{Env}
use Rattle.label_code.specs.Shaped.{Code, IsShaped}
use Rattle.start_file.specs.Starts.{StartValue}
use Rattle.first_front.specs.declared.interval.Interval.{Interval}
use Rattle.start_tune.specs.Runs.{Fits, AreBest, IsTooLate, OneIsUnending}

-- Of any code, from starts that fit it and to any T: the best choices in the one environment are the best in the other, and
-- a run that is too long in the one is too long in the other.
pub record BestAreAlike {E F : Type 0} (v : Env E) (made : Order → List Touch → E) (w : Order → Env F) (made' : Order → List Touch → F) : Type 0 where
  pub best : (c : Code) → IsShaped c → (ss : List StartValue) → All (Fits c) ss → (t mark : ℕ) (marked : List Bool) (is : List Interval) →
      AreBest v made t c mark marked ss is → AreBest (w c.order) made' t c mark marked ss is
  pub late : (c : Code) → IsShaped c → (ss : List StartValue) → All (Fits c) ss → (t mark : ℕ) (marked : List Bool) →
      IsTooLate v made t c mark marked ss → IsTooLate (w c.order) made' t c mark marked ss
  pub unending : (c : Code) → IsShaped c → (ss : List StartValue) → All (Fits c) ss → (t : ℕ) →
      OneIsUnending v made t c ss → OneIsUnending (w c.order) made' t c ss
