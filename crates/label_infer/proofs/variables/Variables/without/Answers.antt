use Rattle.std.proofs.Common.{sym, length}
use Rattle.label_lattice.specs.Order.{lattice_of}
use Rattle.timing_types.specs.Labelling.{label_at}
use Rattle.label_infer.proofs.Values.{fixed_value}
use Rattle.label_infer.proofs.variables.Variables.without.Goals as goal

pub returns : goal.returns
returns c =
    sym (fixed_value (lattice_of c.args.order.now) c.laws.ensures.lattice (length c.args.self.now)
    (label_at c.args.order.now.bottom c.args.self.now) c.args.base.number)
