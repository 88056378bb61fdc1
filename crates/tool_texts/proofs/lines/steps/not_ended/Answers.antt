use Rattle.std.proofs.Common.{arith, ap, length, ◌≤◌, ◌<◌, ◌^◌}
use Rattle.tim_base.proofs.LineLemmas.{length-decimal}
use Rattle.event_print.proofs.Lengths.{longer}
use Rattle.tool_texts.proofs.lines.steps.not_ended.Goals as goal

pub put_unsigned-requires : goal.put_unsigned-requires
put_unsigned-requires c =
    let none : length c.new-line.result ≤ 0 = omega (arith, ap length c.new-line.ensures) in
    let one = longer _ _ _ 0 16 16 c.put_text.ensures none (omega arith) (omega arith) in
    let small : c.args.steps < 2 ^ 64 = omega arith in
    omega (arith, one, length-decimal c.args.steps small)

pub put_text-requires-2 : goal.put_text-requires-2
put_text-requires-2 c =
    let none : length c.new-line.result ≤ 0 = omega (arith, ap length c.new-line.ensures) in
    let one = longer _ _ _ 0 16 16 c.put_text.ensures none (omega arith) (omega arith) in
    let small : c.args.steps < 2 ^ 64 = omega arith in
    let two = longer _ _ _ 16 20 36 c.put_unsigned.ensures one (length-decimal c.args.steps small) (omega arith) in
    omega (arith, two)
