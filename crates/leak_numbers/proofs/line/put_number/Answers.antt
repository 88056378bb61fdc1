use Rattle.std.proofs.Common.{◌<◌, ◌^◌, arith, length, decimal}
use Rattle.tim_base.proofs.LineLemmas.{length-decimal, length-appended}
use Rattle.leak_numbers.proofs.line.put_number.Goals as goal

pub put_unsigned-requires : goal.put_unsigned-requires
put_unsigned-requires c =
    let small : c.args.n < 2 ^ 64 = omega arith in
    omega (arith, length-decimal c.args.n small)

pub returns-clause-size : goal.returns-clause-size
returns-clause-size c =
    let small : c.args.n < 2 ^ 64 = omega arith in
    length-appended c.put_unsigned.new.self c.args.line.now (decimal c.args.n) (length c.args.line.now) 20 c.put_unsigned.ensures (omega arith)
    (length-decimal c.args.n small)
