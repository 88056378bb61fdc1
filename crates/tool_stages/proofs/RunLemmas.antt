-- What a run begins with.
use Rattle.std.proofs.Common.{◌≡◌, ◌<◌, ℕ, List, Option, Some, None, sym, ap, subst, ◌∙◌}
use Rattle.std.specs.Prelude.{ℤ, IfSome}
use Rattle.env_contract.specs.Env.{Env}
use Rattle.label_lattice.specs.declared.label.Label.{Label}
use Rattle.label_lattice.specs.Order.{Order}
use Rattle.label_code.specs.Shaped.{Code}
use Rattle.label_code.specs.Machine.{Machine, start, run_to}
use Rattle.label_code.specs.Run.{run_from}
use Rattle.cycle_machine.specs.Seen.{seen}
use Rattle.cycle_machine.specs.Turned.{Loaded}
use Rattle.cycle_machine.specs.declared.turn.Turn.{Turn}
use Rattle.cycle_machine.specs.Rest.{told_by, rest_of, rest_from}
use Rattle.tool_stages.specs.Stages.{Observes}

-- a machine that was loaded does the run
pub loaded_runs : {E : Type 0} (v : Env E) (limit : ℕ) (m : Loaded E) (code : Code) (memory : List ℤ) (env env' : E) → m.stopped ≡ None → m.code ≡ code
    → seen m.state ≡ start memory env → env ≡ env'
    → rest_of v limit m ≡ told_by (run_from v code.instrs limit (record { memory = memory; env = env' }))
loaded_runs {E} v limit m code memory env env' going is at same =
    ap (λ (o : Option Turn). rest_from v limit m.code.instrs m.state o) going
    ∙ ap (λ (x : Machine E). told_by (run_to v m.code.instrs limit x)) at
    ∙ ap (λ (c : Code). told_by (run_to v c.instrs limit (start memory env))) is
    ∙ ap (λ (e : E). told_by (run_to v code.instrs limit (start memory e))) same

-- an observer that is known is a label
pub observer_below : (order : Order) (w : Option (List ℕ)) (o : Option Label) → Observes order w o → IfSome o (λ l. l.number < order.size)
observer_below order None o h = subst (λ (z : Option Label). IfSome z (λ l. l.number < order.size)) (sym h) tt
observer_below order (Some w) None h = absurd h
observer_below order (Some w) (Some l) h = h.0
