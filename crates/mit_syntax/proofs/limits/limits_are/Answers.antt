use Rattle.mit_syntax.proofs.Numbers.{few_cells}
use Rattle.mit_syntax.proofs.limits.limits_are.Goals as goal

pub returns-clause-few : goal.returns-clause-few
returns-clause-few c = λ ds. (λ few. (few.count, few.elements), λ h. record { count = h.0; elements = h.1 })

pub returns-clause-cells : goal.returns-clause-cells
returns-clause-cells c = few_cells

pub returns-clause-small : goal.returns-clause-small
returns-clause-small c = λ d e. (λ small. (small.depth, small.operators), λ h. record { depth = h.0; operators = h.1 })
