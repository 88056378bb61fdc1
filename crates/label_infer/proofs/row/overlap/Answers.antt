use Rattle.label_infer.proofs.Bits.{overlap_is}
use Rattle.label_infer.proofs.row.overlap.Goals as goal

pub returns : goal.returns
returns c = overlap_is c.args.a c.args.b c.ranges.a.fits
