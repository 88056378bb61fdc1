use Rattle.part_tlb.specs.Standing.{label_in}
use Rattle.env_contract.specs.declared.place.Place.TheVariants.{Page, Code, Data}
use Rattle.part_tlb.proofs.part.PartEnv.touch.Goals as goal

pub touch-requires : goal.touch-requires
touch-requires c = label_in c.requires.0 1 4 c.args.self.now.buffer c.args.label.number (c.requires.1.0.each Page) c.requires.1.1

pub touch-requires-in-Code : goal.touch-requires-in-Code
touch-requires-in-Code c = label_in c.requires.0 8 2 c.args.self.now.code_cache c.args.label.number (c.requires.1.0.each Code) c.requires.1.1

pub touch-requires-in-Data : goal.touch-requires-in-Data
touch-requires-in-Data c = label_in c.requires.0 8 2 c.args.self.now.data_cache c.args.label.number (c.requires.1.0.each Data) c.requires.1.1
