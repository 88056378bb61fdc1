use Rattle.std.proofs.Common.{rules, sym, ◌∙◌, subst}
use Rattle.env_contract.specs.declared.place.Place.TheVariants.{Second}
use Rattle.part_tlb.specs.Machine.{accessed}
use Rattle.part_tlb.specs.Structures.{IsMadeFor, StandsForAll}
use Rattle.part_tlb.specs.Envs.{part2_structure}
use Rattle.part_tlb.specs.Laws.{first_serves, part2_keeps}
use Rattle.part_tlb.specs.Standing.{label_in, part2_penalty_is, part2_after_stands}
use Rattle.part_tlb.proofs.part2.Part2EnvMachineEnv.access.Goals as goal

pub look_up-hits-requires : goal.look_up-hits-requires
look_up-hits-requires c = (c.requires.0, (first_serves c.requires.0 c.args.self.now c.requires.1.0, c.requires.1.1, c.requires.1.2))

pub look_and_touch-second-requires-clause-read : goal.look_and_touch-second-requires-clause-read
look_and_touch-second-requires-clause-read c = label_in c.requires.0 32 4 c.args.self.now.second c.args.er.number (c.requires.1.0.each Second) c.requires.1.1

pub look_and_touch-second-requires-clause-write : goal.look_and_touch-second-requires-clause-write
look_and_touch-second-requires-clause-write c = label_in c.requires.0 32 4 c.args.self.now.second c.args.ew.number (c.requires.1.0.each Second) c.requires.1.2

pub returns-clause-cost : goal.returns-clause-cost
returns-clause-cost c = search rules

pub returns-clause-next : goal.returns-clause-next
returns-clause-next c = search rules

pub returns-clause-history_cost : goal.returns-clause-history_cost
returns-clause-history_cost c order h serves stands =
    returns-clause-cost c ∙ part2_penalty_is order c.args.kind c.args.address c.args.er.number c.args.ew.number c.args.self.now h serves stands

pub returns-clause-history_next : goal.returns-clause-history_next
returns-clause-history_next c h stands =
    subst (λ e. StandsForAll part2_structure e (accessed c.args.kind c.args.address c.args.ew.number h)) (sym (returns-clause-next c))
    (part2_after_stands c.requires.0 c.args.kind c.args.address c.args.er.number c.args.ew.number c.args.self.now h c.requires.1.0 c.requires.1.2 stands)

pub returns-clause-serves : goal.returns-clause-serves
returns-clause-serves c order serves =
    subst (IsMadeFor part2_structure order) (sym (returns-clause-next c))
    (part2_keeps order c.args.kind c.args.address c.args.er.number c.args.ew.number c.args.self.now serves)

pub look_and_touch-second-requires-clause-sets : goal.look_and_touch-second-requires-clause-sets
look_and_touch-second-requires-clause-sets c = sym (c.requires.1.0.each Second).same_sets
