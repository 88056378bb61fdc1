use Rattle.code_lower.proofs.Order.{keeps_order}
use Rattle.code_lower.proofs.laws.code_keeps_order.Goals as goal

pub returns : goal.returns
returns g c = λ v lat labels image p code. keeps_order v lat labels image p code
