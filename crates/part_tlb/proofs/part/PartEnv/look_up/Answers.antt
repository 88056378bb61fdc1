use Rattle.std.proofs.Common.{sym}
use Rattle.part_tlb.specs.Standing.{label_in}
use Rattle.env_contract.specs.declared.place.Place.TheVariants.{Page, Code, Data}
use Rattle.part_tlb.proofs.part.PartEnv.look_up.Goals as goal

pub look_and_touch-page-requires-clause-read : goal.look_and_touch-page-requires-clause-read
look_and_touch-page-requires-clause-read c = label_in c.requires.0 1 4 c.args.self.now.buffer c.args.er.number (c.requires.1.0.each Page) c.requires.1.1

pub look_and_touch-page-requires-clause-write : goal.look_and_touch-page-requires-clause-write
look_and_touch-page-requires-clause-write c = label_in c.requires.0 1 4 c.args.self.now.buffer c.args.ew.number (c.requires.1.0.each Page) c.requires.1.2

pub look_and_touch-line-requires-clause-read : goal.look_and_touch-line-requires-clause-read
look_and_touch-line-requires-clause-read c = label_in c.requires.0 8 2 c.args.self.now.code_cache c.args.er.number (c.requires.1.0.each Code) c.requires.1.1

pub look_and_touch-line-requires-clause-write : goal.look_and_touch-line-requires-clause-write
look_and_touch-line-requires-clause-write c = label_in c.requires.0 8 2 c.args.self.now.code_cache c.args.ew.number (c.requires.1.0.each Code) c.requires.1.2

pub look_and_touch-line-requires-in-Data-clause-read : goal.look_and_touch-line-requires-in-Data-clause-read
look_and_touch-line-requires-in-Data-clause-read c =
    label_in c.requires.0 8 2 c.args.self.now.data_cache c.args.er.number (c.requires.1.0.each Data) c.requires.1.1

pub look_and_touch-line-requires-in-Data-clause-write : goal.look_and_touch-line-requires-in-Data-clause-write
look_and_touch-line-requires-in-Data-clause-write c =
    label_in c.requires.0 8 2 c.args.self.now.data_cache c.args.ew.number (c.requires.1.0.each Data) c.requires.1.2

pub look_and_touch-page-requires-clause-sets : goal.look_and_touch-page-requires-clause-sets
look_and_touch-page-requires-clause-sets c = sym (c.requires.1.0.each Page).same_sets

pub look_and_touch-line-requires-clause-sets : goal.look_and_touch-line-requires-clause-sets
look_and_touch-line-requires-clause-sets c = sym (c.requires.1.0.each Code).same_sets

pub look_and_touch-line-requires-in-Data-clause-sets : goal.look_and_touch-line-requires-in-Data-clause-sets
look_and_touch-line-requires-in-Data-clause-sets c = sym (c.requires.1.0.each Data).same_sets
