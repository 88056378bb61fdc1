-- Machines in two environments.
use Rattle.std.specs.Prelude.{◌≡◌, ℕ, ◌<◌, List, Some, slice_get}
use Rattle.label_code.specs.declared.code.Instr.{Instr}
use Rattle.label_code.specs.Machine.{Core, Machine}

-- the machine with another state of an environment in place of its own
abbrev pub core_in : {E F : Type 0} → F → Core E → Core F
core_in f s = record { memory = s.memory; env = f; clock = s.clock; misses = s.misses; log = s.log }

abbrev pub machine_in : {E F : Type 0} → F → Machine E → Machine F
machine_in f x = record { place = x.place; operands = x.operands; opened = x.opened; core = core_in f x.core; halted = x.halted }

-- two machines are alike but for their environments' states, which are related
pub record AreAlike {E F : Type 0} (related : E → F → Type 0) (x : Machine E) (y : Machine F) : Type 0 where
  pub same : y ≡ machine_in y.core.env x
  pub envs : related x.core.env y.core.env

-- the labels of the instructions are below n
abbrev pub HasLabelsBelow : ℕ → List Instr → Type 0
HasLabelsBelow n image = (a : ℕ) (i : Instr) → slice_get image a ≡ Some i → (i.er.number < n) × (i.ew.number < n)
