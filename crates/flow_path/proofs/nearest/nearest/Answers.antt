use Rattle.flow_path.proofs.Settling.{known_begins}
use Rattle.flow_path.proofs.nearest.nearest.Goals as goal

pub loop-init : goal.loop-init
loop-init c = record { known = known_begins c.args.p.now c.args.target.now c.in_ok-known.known c.in_ok-known.ensures }

pub loop-preserved : goal.loop-preserved
loop-preserved c = record { known = c.turn.ensures c.args.target.now c.loop.invariant.known }

pub returns : goal.returns
returns c = c.loop.invariant.known
