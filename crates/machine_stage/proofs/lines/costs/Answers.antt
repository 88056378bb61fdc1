use Rattle.std.proofs.Common.{◌≡◌, ◌+◌, ◌<◌, ◌≤◌, ◌^◌, arith, ap, length, codes, decimal}
use Rattle.tim_base.proofs.LineLemmas.{length-decimal, length-appended}
use Rattle.machine_stage.proofs.lines.costs.Goals as goal

pub put_unsigned-requires : goal.put_unsigned-requires
put_unsigned-requires c =
    let small : c.args.most < 2 ^ 64 = omega arith in
    let none : length c.new-line.result ≡ 0 = ap length c.new-line.ensures in
    let head : length c.put_text.new.self ≤ 0 + 15 =
    length-appended c.put_text.new.self c.new-line.result (codes "machine: costs ") 0 15 c.put_text.ensures (omega (arith, none)) (omega arith) in
    omega (arith, head, length-decimal c.args.most small)

pub put_text-requires-2 : goal.put_text-requires-2
put_text-requires-2 c =
    let small : c.args.most < 2 ^ 64 = omega arith in
    let none : length c.new-line.result ≡ 0 = ap length c.new-line.ensures in
    let head : length c.put_text.new.self ≤ 0 + 15 =
    length-appended c.put_text.new.self c.new-line.result (codes "machine: costs ") 0 15 c.put_text.ensures (omega (arith, none)) (omega arith) in
    let more : length c.put_unsigned.new.self ≤ 15 + 20 =
    length-appended c.put_unsigned.new.self c.put_text.new.self (decimal c.args.most) 15 20 c.put_unsigned.ensures (omega (arith, head))
    (length-decimal c.args.most small) in
    omega (arith, more)
