use Rattle.part_tlb.specs.Standing.{label_in}
use Rattle.env_contract.specs.declared.place.Place.TheVariants.{Second}
use Rattle.part_tlb.specs.Laws.{first_serves}
use Rattle.part_tlb.proofs.part2.Part2Env.touch.Goals as goal

pub touch-requires : goal.touch-requires
touch-requires c = label_in c.requires.0 32 4 c.args.self.now.second c.args.label.number (c.requires.1.0.each Second) c.requires.1.1

pub touch-requires-in-Page : goal.touch-requires-in-Page
touch-requires-in-Page c = (c.requires.0, (first_serves c.requires.0 c.args.self.now c.requires.1.0, c.requires.1.1))
