use Rattle.mit_parser.proofs.NamedWhole.{named_exactly}
use Rattle.parse_laws.proofs.laws.no_fault_is_named.Goals as goal

pub returns : goal.returns
returns c = named_exactly
