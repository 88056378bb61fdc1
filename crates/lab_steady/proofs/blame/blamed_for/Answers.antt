use Rattle.std.proofs.Common.{ap, ◌∙◌}
use Rattle.timing_types.specs.Labelled.{order_of, labels_of}
use Rattle.label_code.specs.Shaped.{Code}
use Rattle.code_lower.specs.Lowered.{lowered}
use Rattle.steady_code.specs.Timed.{low_of}
use Rattle.lab_steady.proofs.Blames.{blamed_there}
use Rattle.lab_steady.proofs.blame.blamed_for.Goals as goal

pub returns : goal.returns
returns c =
    c.blamed.ensures
    ∙ blamed_there (low_of (order_of c.args.p.now) (labels_of c.args.p.now) c.args.observer.number) c.args.image.now.instrs
    (lowered c.args.p.now).instrs c.args.fault.place c.at-work.result c.args.fault.reason (ap (λ (z : Code). z.instrs) c.requires.image) c.at-work.ensures
