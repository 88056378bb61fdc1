-- Runs in an environment, and runs in which histories alone say what accesses cost.
use Rattle.std.specs.Prelude.{ℕ, ◌<◌, List, ℤ}
use Rattle.std.specs.List.{All}
use Rattle.label_lattice.specs.Order.{Order}
use Rattle.env_contract.specs.declared.place.Touch.{Touch}
use Rattle.env_contract.specs.Env.{Env}
use Rattle.label_code.specs.Run.{run_from}
use Rattle.label_code.specs.Shaped.{Code, IsShaped}
use Rattle.label_code.specs.Alike.{AreAlike}

-- Of any code, from any memory and any touches and to any T: the run in the environment that the touches made
-- and the run over the touches as a history are alike but for the environments, of which the one stands for
-- the other.
abbrev pub RunsByHistory : {E : Type 0} → Env E → (Order → E → List Touch → Type 0) → (Order → List Touch → E) → (Order → Env (List Touch)) → Type 0
RunsByHistory v stands made by_history =
    (c : Code) → IsShaped c → (memory : List ℤ) (touches : List Touch) → All (λ x. x.label.number < c.order.size) touches → (t : ℕ) →
    AreAlike (stands c.order)
    (run_from v c.instrs t (record { memory = memory; env = made c.order touches }))
    (run_from (by_history c.order) c.instrs t (record { memory = memory; env = touches }))
