use Rattle.std.proofs.Common.{arith, sym}
use Rattle.first_front.proofs.Cheapest.{many_bits}
use Rattle.first_front.proofs.enough.is_few.Goals as goal

pub returns-then-bits-ge64 : goal.returns-then-bits-ge64
returns-then-bits-ge64 c =
    let many = c.if-bits-ge64.true in sym (many_bits c.args.things c.args.bits (omega (arith, c.ranges.things.fits)) (omega (arith, many)))
