use Rattle.part_tlb.specs.Standing.{label_in}
use Rattle.env_contract.specs.declared.place.Place.TheVariants.{Second}
use Rattle.part_tlb.specs.Laws.{first_serves}
use Rattle.part_tlb.proofs.part2.Part2EnvMachineEnv.same.Goals as goal

pub same_part-requires-clause-here : goal.same_part-requires-clause-here
same_part-requires-clause-here c = label_in c.requires.0 32 4 c.args.self.now.second c.args.label.number (c.requires.1.0.each Second) c.requires.1.2

pub same_part-requires-clause-there : goal.same_part-requires-clause-there
same_part-requires-clause-there c = label_in c.requires.0 32 4 c.args.other.now.second c.args.label.number (c.requires.1.1.each Second) c.requires.1.2

pub same-requires : goal.same-requires
same-requires c = (
  c.requires.0,
  (first_serves c.requires.0 c.args.self.now c.requires.1.0, first_serves c.requires.0 c.args.other.now c.requires.1.1, c.requires.1.2),
)
