-- Two environments of which one does what the other does.
use Rattle.std.specs.Prelude.{◌≡◌, ℕ, ◌<◌}
use Rattle.env_contract.specs.declared.place.Kind.{Kind}
use Rattle.env_contract.specs.declared.place.Place.{Place}
use Rattle.env_contract.specs.Env.{Env}

-- In related states an access under labels below n costs the same and comes to related states, and each part of
-- a label below n is the same.
pub record DoesAs {E F : Type 0} (v : Env E) (w : Env F) (n : ℕ) (related : E → F → Type 0) : Type 0 where
  pub cost : (k : Kind) (a er ew : ℕ) (e : E) (f : F) → er < n → ew < n → related e f → v.cost_of k a er ew e ≡ w.cost_of k a er ew f
  pub next : (k : Kind) (a er ew : ℕ) (e : E) (f : F) → er < n → ew < n → related e f → related (v.next_of k a er ew e) (w.next_of k a er ew f)
  pub part : (q : Place) (l : ℕ) (e : E) (f : F) → l < n → related e f → v.part q l e ≡ w.part q l f
