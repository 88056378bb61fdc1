use Rattle.label_lattice.proofs.OneOrder.{one_order}
use Rattle.label_lattice.proofs.lattice.one_order.Goals as goal

pub returns : goal.returns
returns c = one_order
