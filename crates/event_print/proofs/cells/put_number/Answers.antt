use Rattle.std.proofs.Common.{arith, ◌<◌, ◌^◌}
use Rattle.std.specs.Prelude.{decimal}
use Rattle.tim_base.proofs.LineLemmas.{length-decimal}
use Rattle.event_print.proofs.Appended.{appended}
use Rattle.event_print.proofs.cells.put_number.Goals as goal

pub put_unsigned-requires : goal.put_unsigned-requires
put_unsigned-requires c =
    let one = appended c.put_text.new.self c.args.line.now c.args.words.now c.put_text.ensures in
    let room = c.requires in
    let small : c.args.n < 2 ^ 64 = omega arith in
    omega (arith, one, room, length-decimal c.args.n small)

pub returns-clause-short : goal.returns-clause-short
returns-clause-short c =
    let one = appended c.put_text.new.self c.args.line.now c.args.words.now c.put_text.ensures in
    let two = appended c.put_unsigned.new.self c.put_text.new.self (decimal c.args.n) c.put_unsigned.ensures in
    let small : c.args.n < 2 ^ 64 = omega arith in
    omega (arith, one, two, length-decimal c.args.n small)
