use Rattle.std.proofs.Common.{◌<◌, sym, subst, arith}
use Rattle.label_lattice.specs.Order.{Order}
use Rattle.label_code.specs.Shaped.{IsShaped}
use Rattle.cycle_machine.proofs.Sample.{sample_shaped}
use Rattle.cycle_machine.proofs.tests.mitigated_code.Goals as goal

pub of-requires : goal.of-requires
of-requires c =
    let low : c.new-low.result.number < c.args.lattice.size = omega (arith, c.requires, c.new-low.ensures) in
    subst (λ (o : Order). IsShaped (record { instrs = c.in_ok-instrs.instrs.items; variables = 4; order = o; operands = 2; nesting = 1 }))
    (sym c.in_ok-new.ensures.ok)
    (subst (λ z. IsShaped (record { instrs = z; variables = 4; order = c.args.lattice; operands = 2; nesting = 1 })) (sym c.in_ok-instrs.ensures.items)
    (sample_shaped c.args.lattice c.new-low.result low))
