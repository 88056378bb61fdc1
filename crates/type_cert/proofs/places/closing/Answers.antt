use Rattle.std.proofs.Common.{◌+◌, sym, drop, length-drop, arith}
use Rattle.type_cert.proofs.Placing.{closing_some}
use Rattle.type_cert.proofs.places.closing.Goals as goal

pub returns : goal.returns
returns c =
    let cs = c.args.commands.now in
    let n = length-drop (c.args.index + 1) cs in
    let r = c.requires in
    sym (closing_some (drop (c.args.index + 1) cs) c.args.close (grind (arith, n, r)))
