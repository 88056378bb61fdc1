use Rattle.std.proofs.Common.{arith}
use Rattle.label_code.proofs.places.code_and_data_lie_apart.Goals as goal

pub returns-clause-pages : goal.returns-clause-pages
returns-clause-pages c = λ a x h. omega (arith, h)

pub returns-clause-cells : goal.returns-clause-cells
returns-clause-cells c = λ x y h. omega (arith, h)

pub returns-clause-fits : goal.returns-clause-fits
returns-clause-fits c = λ x h. omega (arith, h)
