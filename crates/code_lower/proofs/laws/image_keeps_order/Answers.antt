use Rattle.mit_syntax.specs.Program.{plan_of}
use Rattle.timing_types.specs.Labelled.{order_of, labels_of, bare_of}
use Rattle.code_lower.specs.Lowered.{lowered}
use Rattle.code_lower.proofs.Order.{keeps_order}
use Rattle.code_lower.proofs.Stands.{image_is}
use Rattle.code_lower.proofs.Meaning.{keep_meaning, order_same}
use Rattle.code_lower.proofs.laws.image_keeps_order.Goals as goal

pub returns : goal.returns
returns g c = λ v p.
    order_same v (lowered p).instrs (bare_of p) (plan_of p.program) (keep_meaning p)
    (keeps_order v (order_of p) (labels_of p) (lowered p).instrs (bare_of p) (image_is (order_of p) (labels_of p) (bare_of p)))
