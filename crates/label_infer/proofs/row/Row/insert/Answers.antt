use Rattle.label_infer.proofs.Bits.{with_read}
use Rattle.label_infer.proofs.row.Row.insert.Goals as goal

pub returns : goal.returns
returns c = with_read c.args.self.now.words.items c.args.x c.index_mut.result.now c.args.self.now.full c.requires c.index_mut.ensures.value
