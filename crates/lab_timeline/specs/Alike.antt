-- What runs over caches tell of their mitigations is what runs over histories tell.
use Rattle.std.specs.Prelude.{◌<◌, ℕ, List, All}
use Rattle.label_lattice.specs.Order.{Order}
use Rattle.env_contract.specs.declared.place.Touch.{Touch}
use Rattle.env_contract.specs.Env.{Env}
use Rattle.label_code.specs.Shaped.{Code, IsShaped}
use Rattle.start_file.specs.Starts.{StartValue}
use Rattle.leak_audit.specs.Agreement.{start_of}
use Rattle.run_timeline.specs.declared.moment.Moment.{Moment}
use Rattle.run_timeline.specs.Timeline.{IsTimeline}

-- Of any code, from any start for its lattice and to any T, a timeline in the one environment is one in the other.
abbrev pub TimelinesTellAlike : {E F : Type 0} → Env E → (Order → List Touch → E) → (Order → Env F) → (Order → List Touch → F) → Type 0
TimelinesTellAlike v made w made' =
    (c : Code) → IsShaped c → (s : StartValue) → All (λ x. x.label.number < c.order.size) s.touches → (t : ℕ) (ms : List Moment) →
    IsTimeline v c.instrs t (start_of made c.order s) ms → IsTimeline (w c.order) c.instrs t (start_of made' c.order s) ms
