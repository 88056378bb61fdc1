use Rattle.std.proofs.Common.{◌∙◌, arith}
use Rattle.label_lattice.specs.Order.{lattice_of}
use Rattle.label_lattice.proofs.Orders.{count_one, count_none}
use Rattle.label_lattice.proofs.lattice.Lattice.not_below.Goals.{then-not-flows, else-not-flows}
use Rattle.label_lattice.proofs.lattice.Lattice.not_below.Goals as goal

pub loop-number-preserved : goal.loop-number-preserved
loop-number-preserved c =
    elim c.if-not-flows.branch [
      | then-not-flows w ↦ (
        w.count-is ∙ count_one (lattice_of c.args.self.now) c.args.a.number c.loop-number.number c.new.result.number c.loop-number.count c.new.ensures
            c.loop-number.invariant.0 c.flows.result c.flows.ensures w.if-not-flows.true,
        omega arith,
      )
      | else-not-flows w ↦ (
        w.count-is ∙ count_none (lattice_of c.args.self.now) c.args.a.number c.loop-number.number c.new.result.number c.loop-number.count c.new.ensures
            c.loop-number.invariant.0 c.flows.result c.flows.ensures w.if-not-flows.false,
        omega arith,
      )
    ]
