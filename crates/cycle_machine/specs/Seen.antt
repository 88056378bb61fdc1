-- The machine that a loaded state stands for.
use Rattle.std.specs.Prelude.{ℕ, List, [], map, reverse, slice_index_or}
use Rattle.label_code.specs.Machine.{Event, Opened, Core, Machine, at}
use Rattle.cycle_machine.specs.declared.state.Open.{Open}
use Rattle.cycle_machine.specs.declared.state.State.{State}

abbrev pub opened_of : Open → Opened
opened_of o = record { estimate = o.estimate; level = o.level.number; mark = o.mark; since = o.since }

abbrev pub counts : List ℕ → ℕ → ℕ
counts ms l = slice_index_or ms l 0

abbrev pub core_of : {E : Type 0} → State E → Core E
core_of s = record { memory = s.memory.items; env = s.env; clock = s.clock; misses = counts s.misses; log = [] }

-- a state keeps no log: its own is empty
abbrev pub seen : {E : Type 0} → State E → Machine E
seen s = at s.place (reverse s.operands.items) (map opened_of (reverse s.opened.items)) (core_of s)

abbrev pub with_log : {E : Type 0} → List Event → Machine E → Machine E
with_log es m = record m { core = record m.core { log = es } }
