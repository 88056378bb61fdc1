use Rattle.mit_parser.proofs.Found.{label_found}
use Rattle.mit_parser.proofs.names.find_in.Goals as goal

pub returns : goal.returns
returns c = label_found c.args.lattice.now c.laws.ensures.order c.args.name.now c.find.result c.find.ensures
