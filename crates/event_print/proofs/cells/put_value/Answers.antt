use Rattle.std.proofs.Common.{arith, to_z, of_z, w64}
use Rattle.std.specs.Fmt.{signed_decimal}
use Rattle.event_print.proofs.Lengths.{signed_short}
use Rattle.event_print.proofs.Appended.{appended}
use Rattle.event_print.proofs.cells.put_value.Goals as goal

pub put_signed-requires : goal.put_signed-requires
put_signed-requires c =
    let one = appended c.put_text.new.self c.args.line.now c.args.words.now c.put_text.ensures in
    let room = c.requires in
    omega (arith, one, room, signed_short c.args.n c.ranges.n.sfits)

pub returns-clause-short : goal.returns-clause-short
returns-clause-short c =
    let one = appended c.put_text.new.self c.args.line.now c.args.words.now c.put_text.ensures in
    let two = appended c.put_signed.new.self c.put_text.new.self (signed_decimal (to_z w64 (of_z w64 c.args.n))) c.put_signed.ensures in
    omega (arith, one, two, signed_short c.args.n c.ranges.n.sfits)
