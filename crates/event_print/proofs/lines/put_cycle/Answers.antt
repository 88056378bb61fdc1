use Rattle.std.proofs.Common.{arith, ◌<◌, ◌^◌}
use Rattle.tim_base.proofs.LineLemmas.{length-decimal}
use Rattle.event_print.proofs.Lengths.{longer}
use Rattle.event_print.proofs.lines.put_cycle.Goals as goal

pub put_unsigned-requires : goal.put_unsigned-requires
put_unsigned-requires c =
    let one = longer _ _ _ 128 2 130 c.put_text.ensures c.requires (omega arith) (omega arith) in
    let small : c.args.cycle < 2 ^ 64 = omega arith in
    omega (arith, one, length-decimal c.args.cycle small)

pub put_text-requires-2 : goal.put_text-requires-2
put_text-requires-2 c =
    let one = longer _ _ _ 128 2 130 c.put_text.ensures c.requires (omega arith) (omega arith) in
    let small : c.args.cycle < 2 ^ 64 = omega arith in
    let two = longer _ _ _ 130 20 150 c.put_unsigned.ensures one (length-decimal c.args.cycle small) (omega arith) in
    omega (arith, two)
