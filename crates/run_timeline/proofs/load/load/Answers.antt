use Rattle.std.proofs.Common.{ap}
use Rattle.std.specs.Prelude.{reverse, map}
use Rattle.cycle_machine.specs.Seen.{opened_of}
use Rattle.cycle_machine.proofs.Start.{start_is}
use Rattle.run_timeline.proofs.load.load.Goals as goal

pub returns-clause-start : goal.returns-clause-start
returns-clause-start g c =
    start_is _ _ _ _ _ (ap reverse c.in_ok-operands.ensures.items) (ap (λ z. map opened_of (reverse z)) c.in_ok-opened.ensures.items) c.new.ensures
