use Rattle.part_tlb.specs.Standing.{label_in}
use Rattle.env_contract.specs.declared.place.Place.TheVariants.{Page, Code, Data}
use Rattle.part_tlb.proofs.part.PartEnvMachineEnv.same.Goals as goal

pub same_part-requires-clause-here : goal.same_part-requires-clause-here
same_part-requires-clause-here c = label_in c.requires.0 1 4 c.args.self.now.buffer c.args.label.number (c.requires.1.0.each Page) c.requires.1.2

pub same_part-requires-clause-there : goal.same_part-requires-clause-there
same_part-requires-clause-there c = label_in c.requires.0 1 4 c.args.other.now.buffer c.args.label.number (c.requires.1.1.each Page) c.requires.1.2

pub same_part-requires-in-Code-clause-here : goal.same_part-requires-in-Code-clause-here
same_part-requires-in-Code-clause-here c = label_in c.requires.0 8 2 c.args.self.now.code_cache c.args.label.number (c.requires.1.0.each Code) c.requires.1.2

pub same_part-requires-in-Code-clause-there : goal.same_part-requires-in-Code-clause-there
same_part-requires-in-Code-clause-there c = label_in c.requires.0 8 2 c.args.other.now.code_cache c.args.label.number (c.requires.1.1.each Code) c.requires.1.2

pub same_part-requires-in-Data-clause-here : goal.same_part-requires-in-Data-clause-here
same_part-requires-in-Data-clause-here c = label_in c.requires.0 8 2 c.args.self.now.data_cache c.args.label.number (c.requires.1.0.each Data) c.requires.1.2

pub same_part-requires-in-Data-clause-there : goal.same_part-requires-in-Data-clause-there
same_part-requires-in-Data-clause-there c = label_in c.requires.0 8 2 c.args.other.now.data_cache c.args.label.number (c.requires.1.1.each Data) c.requires.1.2
