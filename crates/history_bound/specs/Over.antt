-- What is said of environments whose state is the history.
use Rattle.std.specs.Prelude.{ℕ, ◌≤◌, List}
use Rattle.label_lattice.specs.Order.{Order}
use Rattle.env_contract.specs.declared.place.Kind.{Kind}
use Rattle.env_contract.specs.declared.place.Touch.{Touch}
use Rattle.env_contract.specs.Env.{Env}
use Rattle.code_lower.specs.Follows.{OrderAll}

-- every history serves every lattice
abbrev pub AnyHistory : Order → List Touch → Type 0
AnyHistory order history = Unit {0}

-- the history that touches make: they are it, for any lattice
abbrev pub history_made : Order → List Touch → List Touch
history_made order touches = touches

-- no access costs more
abbrev pub CostsAtMost : (Order → Env (List Touch)) → ℕ → Type 0
CostsAtMost v most = (order : Order) (k : Kind) (a er ew : ℕ) (h : List Touch) → (v order).cost_of k a er ew h ≤ most

-- the image of every program, accepted or not, does what the program does, in its order
abbrev pub OrderOver : (Order → Env (List Touch)) → Type 0
OrderOver v = (order : Order) → OrderAll (v order)
