use Rattle.hardware.proofs.Named.{flat_within, part_within, part2_within}
use Rattle.hardware.proofs.laws.named_are_within.Goals as goal

pub returns-clause-flat : goal.returns-clause-flat
returns-clause-flat c = flat_within

pub returns-clause-part : goal.returns-clause-part
returns-clause-part c = part_within

pub returns-clause-part2 : goal.returns-clause-part2
returns-clause-part2 c = part2_within
