use Rattle.std.specs.Prelude.{vec_len}
use Rattle.cycle_machine.proofs.Advance.{fits_from}
use Rattle.entry_run.proofs.deed.deed_at.Goals as goal

pub deed_of-requires : goal.deed_of-requires
deed_of-requires g c =
    let fits = fits_from g.E.MachineEnv.serves c.args.image.now c.at-i.result c.args.state.now c.requires c.at-i.ensures c.laws.ensures.operands
    c.laws.ensures.opened c.laws.ensures.memory in
    (vec_len c.args.state.now.memory, fits.few, fits.range)
