use Rattle.std.proofs.Common.{◌^◌, ◌≤◌, sym, ◌∙◌, arith}
use Rattle.sharp_count.proofs.Fitting.{told, untold, times_over}
use Rattle.sharp_count.proofs.count.product.Goals as goal

pub returns-in_default-other : goal.returns-in_default-other
returns-in_default-other c m n e f =
    let less : 2 ^ 128 ≤ n = untold n (sym c.in_default-other.is ∙ f) in
    times_over m n (untold m (sym c.in_default.is ∙ e)) (λ q. absurd (omega (arith, less, q)))

pub returns-else-other-eq0 : goal.returns-else-other-eq0
returns-else-other-eq0 c m n e f =
    let is = told n c.in-Some-other.other (sym c.in-Some-other.is ∙ f) in
    times_over m n (untold m (sym c.in_default.is ∙ e)) (λ q. c.if-other-eq0.false (is.0 ∙ q))
