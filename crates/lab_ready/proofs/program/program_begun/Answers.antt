use Rattle.std.proofs.Common.{Some, subst}
use Rattle.label_lattice.specs.Order.{Order}
use Rattle.tool_stages.specs.Stages.{Observes}
use Rattle.lab_ready.proofs.Stops.{label_stops}
use Rattle.lab_ready.proofs.program.program_begun.Goals as goal

pub returns-in-Err-clause-stop : goal.returns-in-Err-clause-stop
returns-in-Err-clause-stop c content reads =
    label_stops content c.args.observer.now c.args.program c.lattice.result.now c.in-Err.stop reads c.lattice.ensures c.in-Err.ensures.stop

pub returns-in-Ok-observed_begun-clause-told : goal.returns-in-Ok-observed_begun-clause-told
returns-in-Ok-observed_begun-clause-told c content reads same =
    c.in-Ok-observed_begun.ensures content c.args.observer.now reads same
    (subst (λ (z : Order). Observes z (Some c.args.observer.now) (Some c.in-Ok.label)) c.lattice.ensures c.in-Ok.ensures.ok)
