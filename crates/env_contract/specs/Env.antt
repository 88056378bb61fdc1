-- An environment, over any type of states.
use Rattle.std.specs.Prelude.{ℕ, List}
use Rattle.env_contract.specs.declared.place.Kind.{Kind}
use Rattle.env_contract.specs.declared.place.Place.{Place}

-- the penalty of an access (kind, byte address, read label, write label), the state after it, and what
-- the state holds at a place for a label
pub record Env (E : Type 0) : Type 0 where
  pub cost_of : Kind → ℕ → ℕ → ℕ → E → ℕ
  pub next_of : Kind → ℕ → ℕ → ℕ → E → E
  pub part : Place → ℕ → E → List ℕ
