use Rattle.std.proofs.Common.{◌∙◌, sym, arith}
use Rattle.start_file.proofs.Names.{slot_below}
use Rattle.start_file.proofs.memory.put.Goals as goal

pub write-requires : goal.write-requires
write-requires c =
    let below = slot_below c.args.program.now.declarations c.args.key.now c.in-Some.slot (sym c.slot_of.ensures ∙ c.in-Some.is) in
    let size = c.requires.size in
    omega (arith, below, size)
