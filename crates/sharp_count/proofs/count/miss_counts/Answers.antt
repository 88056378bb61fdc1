use Rattle.std.proofs.Common.{◌/◌, ◌^◌, ◌<◌, arith}
use Rattle.std.proofs.Math.Nat.{div-le_self}
use Rattle.sharp_count.proofs.Binary.{digits_few}
use Rattle.sharp_count.proofs.count.miss_counts.Goals as goal

pub returns-clause-few : goal.returns-clause-few
returns-clause-few c =
    let most = c.args.t / c.max.result in
    let fits : c.args.t < 2 ^ 64 = c.ranges.t.fits in
    omega (arith, c.digits.ensures, digits_few most 64 (omega (arith, div-le_self c.args.t c.max.result, fits)))
