use Rattle.label_infer.proofs.Bits.{without_read}
use Rattle.label_infer.proofs.row.Row.remove.Goals as goal

pub returns : goal.returns
returns c = without_read c.args.self.now.words.items c.args.x c.index_mut.result.now c.args.self.now.full c.requires c.index_mut.ensures.value
