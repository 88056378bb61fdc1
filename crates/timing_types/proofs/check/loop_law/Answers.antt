use Rattle.label_lattice.specs.Order.{lattice_of}
use Rattle.timing_types.proofs.Walk.{least_stay}
use Rattle.timing_types.proofs.check.loop_law.Goals as goal

pub returns : goal.returns
returns c = λ g p pc t. least_stay (lattice_of c.args.order.now) c.laws.ensures.lattice g p pc t
