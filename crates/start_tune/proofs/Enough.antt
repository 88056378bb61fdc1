-- There is one cheapest choice that tells few things.
use Rattle.std.proofs.Common.{◌≡◌, ℕ, List, subst}
use Rattle.std.specs.Prelude.{Bool}
use Rattle.label_lattice.specs.Order.{Order}
use Rattle.env_contract.specs.declared.place.Touch.{Touch}
use Rattle.env_contract.specs.Env.{Env}
use Rattle.label_code.specs.Shaped.{Code}
use Rattle.start_file.specs.Starts.{StartValue}
use Rattle.first_front.specs.declared.interval.Interval.{Interval}
use Rattle.first_front.specs.Enough.{IsCheapest, AllTellMore}
use Rattle.first_front.proofs.Sufficing.{enough_at, cheapest_of, none_enough, none_of, one_cheapest, not_both}
use Rattle.start_tune.specs.Runs.{AreBest}
use Rattle.start_tune.specs.Enough.{IsCheapestFew, NoneTellsFew, OneCheapestFew}
use Rattle.start_tune.proofs.Single.{one_best}

module _ {E : Type 0} (v : Env E) (made : Order → List Touch → E) (t : ℕ) (c : Code) (mark : ℕ) (marked : List Bool) (ss : List StartValue)
    (most : ℕ) where
  pub cheapest_few : (is : List Interval) → AreBest v made t c mark marked ss is → (i : Interval) → IsCheapest is most i →
      IsCheapestFew v made t c mark marked ss most i
  cheapest_few is best i h =
      let a = enough_at best.varied best.classes t most is best.front i h in
      record { choices = is; best = best; interval = a.interval; enough = a.enough }

  pub none_tells : (is : List Interval) → AreBest v made t c mark marked ss is → AllTellMore is most → NoneTellsFew v made t c mark marked ss most
  none_tells is best h = record {
    choices = is;
    best = best;
    none = none_enough best.varied best.classes t most is best.front record { first = 0; last = 0; things = 0; cost = 0; latest = 0 } h;
  }

  -- it is the cheapest of the best choices
  among : (i : Interval) → (h : IsCheapestFew v made t c mark marked ss most i) → IsCheapest h.choices most i
  among i h = cheapest_of h.best.varied h.best.classes t most h.choices h.best.front i h.interval h.enough

  one_choices : (is js : List Interval) → AreBest v made t c mark marked ss is → AreBest v made t c mark marked ss js → is ≡ js
  one_choices is js h k = (one_best v made t c mark marked ss is h).0 js k

  pub one_enough : (i j : Interval) → IsCheapestFew v made t c mark marked ss most i → IsCheapestFew v made t c mark marked ss most j → i ≡ j
  one_enough i j h k =
      one_cheapest k.best.varied k.best.classes t most k.choices k.best.front i j
      (subst (λ z. IsCheapest z most i) (one_choices h.choices k.choices h.best k.best) (among i h)) (among j k)

  pub none_else : (i : Interval) → IsCheapestFew v made t c mark marked ss most i → NoneTellsFew v made t c mark marked ss most → ⊥
  none_else i h k =
      not_both k.choices most i (subst (λ z. IsCheapest z most i) (one_choices h.choices k.choices h.best k.best) (among i h))
      (none_of k.best.varied k.best.classes t most k.choices k.best.front k.none)

pub one_cheapest_few : {E : Type 0} (v : Env E) (made : Order → List Touch → E) → OneCheapestFew v made
one_cheapest_few v made t c mark marked ss most i h =
    (λ j k. one_enough v made t c mark marked ss most i j h k, λ k. none_else v made t c mark marked ss most i h k)
