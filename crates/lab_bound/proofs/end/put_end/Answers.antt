use Rattle.std.proofs.Common.{codes, refl, inr}
use Rattle.std.proofs.lemmas.Result.{on_ok_weaker}
use Rattle.lab_bound.proofs.end.put_end.Goals as goal

pub returns : goal.returns
returns c =
    on_ok_weaker c.put-2.result
    (λ e. (codes "end not counted: no limit told for who sees runs end\n", inr (c.counts_end.ensures.not_counted c.if-counts_end.false, refl), e))
    c.put-2.ensures
