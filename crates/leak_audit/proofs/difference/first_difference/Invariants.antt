use Rattle.std.proofs.Common.{◌≡◌, ◌<◌, ℕ}
use Rattle.label_lattice.specs.Lattice.{Flows}
use Rattle.timing_types.specs.Labelled.{order_of}
use Rattle.env_contract.specs.declared.place.Place.{Place}
use Rattle.leak_audit.specs.Agreement.{place_number}
use Rattle.leak_audit.proofs.difference.first_difference.Given as goal

abbrev pub invariant-loop-place : goal.invariant-loop-place
invariant-loop-place g l = (q : Place) → place_number q < l.place-index → (k : ℕ) → Flows (order_of l.p) k l.observer.number
    → g.E.MachineEnv.env.part q k l.one_env ≡ g.E.MachineEnv.env.part q k l.other_env
