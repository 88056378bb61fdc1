-- An environment without penalties and without change.
use Rattle.std.specs.Prelude.{ℕ, List}
use Rattle.env_contract.specs.declared.place.Place.{Place}
use Rattle.env_contract.specs.Env.{Env}

abbrev pub still : {E : Type 0} → (Place → ℕ → E → List ℕ) → Env E
still part = record { cost_of = λ k a er ew e. 0; next_of = λ k a er ew e. e; part = part }
