use Rattle.label_lattice.proofs.Orders.{value_is, order_is}
use Rattle.label_lattice.proofs.lattice.Lattice.laws.Goals as goal

pub returns-clause-lattice : goal.returns-clause-lattice
returns-clause-lattice c = order_is _ (value_is _ _ c.self.view_is c.self.invariant.order)
