use Rattle.label_lattice.proofs.Filled.{filled_front}
use Rattle.label_lattice.proofs.lattice.with_room.Goals as goal

pub returns : goal.returns
returns c = filled_front c.args.names.now c.copy_from_slice.new.self c.index-names-0.result c.requires.some c.index-names-0.is c.copy_from_slice.ensures.after
