use Rattle.std.proofs.Common.{rules, sym, ◌∙◌, subst}
use Rattle.part_tlb.specs.Machine.{accessed}
use Rattle.part_tlb.specs.Structures.{IsMadeFor, StandsForAll}
use Rattle.part_tlb.specs.Envs.{part_structure}
use Rattle.part_tlb.specs.Laws.{part_keeps}
use Rattle.part_tlb.specs.Standing.{part_penalty_is, part_after_stands}
use Rattle.part_tlb.proofs.part.PartEnvMachineEnv.access.Goals as goal

pub returns-clause-cost : goal.returns-clause-cost
returns-clause-cost c = search rules

pub returns-clause-next : goal.returns-clause-next
returns-clause-next c = search rules

pub returns-clause-history_cost : goal.returns-clause-history_cost
returns-clause-history_cost c order h serves stands =
    returns-clause-cost c ∙ part_penalty_is order c.args.kind c.args.address c.args.er.number c.args.ew.number c.args.self.now h serves stands

pub returns-clause-history_next : goal.returns-clause-history_next
returns-clause-history_next c h stands =
    subst (λ e. StandsForAll part_structure e (accessed c.args.kind c.args.address c.args.ew.number h)) (sym (returns-clause-next c))
    (part_after_stands c.requires.0 c.args.kind c.args.address c.args.er.number c.args.ew.number c.args.self.now h c.requires.1.0 c.requires.1.2 stands)

pub returns-clause-serves : goal.returns-clause-serves
returns-clause-serves c order serves =
    subst (IsMadeFor part_structure order) (sym (returns-clause-next c))
    (part_keeps order c.args.kind c.args.address c.args.er.number c.args.ew.number c.args.self.now serves)
