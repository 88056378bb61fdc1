use Rattle.std.proofs.Common.{refl}
use Rattle.part_tlb.specs.Named.{flat_machine, part_machine, part2_machine}
use Rattle.history_bound.proofs.Lawful.{none_costs, one_costs, two_cost}
use Rattle.history_bound.proofs.laws.histories_keep_the_laws.Goals as goal

pub returns-clause-every : goal.returns-clause-every
returns-clause-every c = c.machines_and_the_laws.ensures.partitioned

pub returns-clause-no_level : goal.returns-clause-no_level
returns-clause-no_level c = c.machines_and_the_laws.ensures.partitioned flat_machine c.named_are_within.ensures.flat.banks refl

pub returns-clause-no_level_cost : goal.returns-clause-no_level_cost
returns-clause-no_level_cost c = none_costs (c.machines_cost_at_most.ensures flat_machine)

pub returns-clause-one_level : goal.returns-clause-one_level
returns-clause-one_level c = c.machines_and_the_laws.ensures.partitioned part_machine c.named_are_within.ensures.part.banks refl

pub returns-clause-one_level_cost : goal.returns-clause-one_level_cost
returns-clause-one_level_cost c = one_costs (c.machines_cost_at_most.ensures part_machine)

pub returns-clause-two_levels : goal.returns-clause-two_levels
returns-clause-two_levels c = c.machines_and_the_laws.ensures.partitioned part2_machine c.named_are_within.ensures.part2.banks refl

pub returns-clause-two_levels_cost : goal.returns-clause-two_levels_cost
returns-clause-two_levels_cost c = two_cost (c.machines_cost_at_most.ensures part2_machine)
