-- Runs are alike where the environments do the same and the starts are alike.
use Rattle.std.proofs.Common.{◌<◌, List}
use Rattle.std.specs.List.{All}
use Rattle.label_lattice.specs.Order.{Order}
use Rattle.env_contract.specs.declared.place.Touch.{Touch}
use Rattle.env_contract.specs.Env.{Env}
use Rattle.env_contract.specs.Alike.{DoesAs}
use Rattle.label_code.proofs.Alike.{run_alike}
use Rattle.history_bound.specs.Runs.{RunsByHistory}

pub runs_by_history : {E : Type 0} (v : Env E) (stands : Order → E → List Touch → Type 0) (made : Order → List Touch → E)
    (by_history : Order → Env (List Touch)) → ((order : Order) → DoesAs v (by_history order) order.size (stands order)) →
    ((order : Order) (touches : List Touch) → All (λ t. t.label.number < order.size) touches → stands order (made order touches) touches)
    → RunsByHistory v stands made by_history
runs_by_history v stands made by_history does starts c shaped memory touches below t =
    run_alike v (by_history c.order) c.order.size (stands c.order) (does c.order) c.instrs
    (λ a i e. let fine = shaped.1.each a i e in (fine.er, fine.ew))
    t memory (made c.order touches) touches (starts c.order touches below)
