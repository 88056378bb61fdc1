use Rattle.std.proofs.Common.{length}
use Rattle.mit_parser.proofs.Numbered.{as_labels_below}
use Rattle.mit_parser.proofs.parser.Parser.build.Goals as goal

pub lattice_of-requires-clause-pairs : goal.lattice_of-requires-clause-pairs
lattice_of-requires-clause-pairs c =
    rw (c.deref.ensures.value, c.in_ok-pairs.ensures) (as_labels_below (length c.args.labels.now) c.args.numbers.now c.requires.numbers)
