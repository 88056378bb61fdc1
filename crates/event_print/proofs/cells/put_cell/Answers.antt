use Rattle.std.proofs.Common.{arith, length, ◌≤◌, ap}
use Rattle.std.specs.Prelude.{codes}
use Rattle.event_print.proofs.Appended.{appended}
use Rattle.event_print.proofs.cells.put_cell.Goals as goal

pub put_number-requires : goal.put_number-requires
put_number-requires c =
    let name : length c.bytes.result.now ≤ 32 = omega (arith, ap length c.bytes.ensures.value, c.bytes.ensures.name.1) in
    let one = appended c.put_text.new.self c.args.line.now c.bytes.result.now c.put_text.ensures in
    let room = c.requires.short in
    omega (arith, one, name, room)

pub put_text-requires-in-Some : goal.put_text-requires-in-Some
put_text-requires-in-Some c =
    let name : length c.bytes.result.now ≤ 32 = omega (arith, ap length c.bytes.ensures.value, c.bytes.ensures.name.1) in
    let one = appended c.put_text.new.self c.args.line.now c.bytes.result.now c.put_text.ensures in
    let two = c.put_number.ensures.short in
    let room = c.requires.short in
    omega (arith, one, name, two, room)

pub returns-in-Some-clause-short : goal.returns-in-Some-clause-short
returns-in-Some-clause-short c =
    let name : length c.bytes.result.now ≤ 32 = omega (arith, ap length c.bytes.ensures.value, c.bytes.ensures.name.1) in
    let one = appended c.put_text.new.self c.args.line.now c.bytes.result.now c.put_text.ensures in
    let two = c.put_number.ensures.short in
    let three = appended c.put_text-in-Some.new.self c.put_number.new.line (codes "]") c.put_text-in-Some.ensures in
    omega (arith, one, name, two, three)
