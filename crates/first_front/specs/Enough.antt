-- The cheapest of the choices that tell at most so many things.
use Rattle.std.specs.Prelude.{◌&&◌, ◌≤◌, ◌<◌, ℕ, leb, ltb, Bool, List, Option, Some, None}
use Rattle.std.specs.List.{All, IsAmong}
use Rattle.first_front.specs.declared.class.Class.{Class}
use Rattle.first_front.specs.declared.class.Varied.{Varied}
use Rattle.first_front.specs.declared.interval.Interval.{Interval}
use Rattle.first_front.specs.Told.{things_at, cost_at}
use Rattle.first_front.specs.Front.{Halts, IsBest}

-- a choice with which every run ends by the limit, and which tells at most so many things
abbrev pub TellsFew : Varied → List Class → ℕ → ℕ → ℕ → Type 0
TellsFew v cs limit most n = Halts v cs limit n × (things_at v n cs ≤ most)

-- it is one of the best choices, and tells at most so many things; and of all first predictions from 1 to 2^40 with which every
-- run ends by the limit and which tell at most so many things, none costs less
pub record IsEnough (v : Varied) (cs : List Class) (limit most n : ℕ) : Type 0 where
  pub best : IsBest v cs limit n
  pub few : things_at v n cs ≤ most
  pub cheapest : (m : ℕ) → TellsFew v cs limit most m → cost_at v n cs ≤ cost_at v m cs

-- no first prediction from 1 to 2^40 with which every run ends by the limit tells so little
abbrev pub NoneIsEnough : Varied → List Class → ℕ → ℕ → Type 0
NoneIsEnough v cs limit most = (n : ℕ) → TellsFew v cs limit most n → ⊥

-- ---- the same, told by comparing intervals

-- one of these intervals, which tells at most so many things; and none of these that do costs less
pub record IsCheapest (is : List Interval) (most : ℕ) (i : Interval) : Type 0 where
  pub there : IsAmong is i
  pub few : i.things ≤ most
  pub cheapest : All (λ j. j.things ≤ most → i.cost ≤ j.cost) is

-- each of these tells more things
abbrev pub AllTellMore : List Interval → ℕ → Type 0
AllTellMore is most = All (λ i. most < i.things) is

-- it tells at most so many things, and costs less than what was found before, if something was
abbrev pub is_cheaper : Interval → ℕ → Option Interval → Bool
is_cheaper i most None = leb i.things most
is_cheaper i most (Some j) = leb i.things most && ltb i.cost j.cost
