use Rattle.sharp_count.proofs.Ways.{ways_are_few}
use Rattle.sharp_count.proofs.laws.ways_are_few.Goals as goal

pub returns : goal.returns
returns c = ways_are_few
