use Rattle.std.proofs.Common.{subst}
use Rattle.flow_path.specs.Distances.{IsBest}
use Rattle.flow_path.proofs.Firsts.{then_right, then_left, the_less, the_same}
use Rattle.flow_path.proofs.best.better.Goals as goal

pub returns-then-is_less : goal.returns-then-is_less
returns-then-is_less c = λ s t ds ps qs h k.
    the_less s t ds ps qs c.in-Some.one c.in-Some-b.other (subst (λ z. IsBest s t ds ps z) c.in-Some.is h) (subst (λ z. IsBest s t ds qs z) c.in-Some-b.is k)
    (c.is_less.ensures.less c.if-is_less.true)

pub returns-else-is_less : goal.returns-else-is_less
returns-else-is_less c = λ s t ds ps qs h k.
    the_same s t ds ps qs c.in-Some.one c.in-Some-b.other (subst (λ z. IsBest s t ds ps z) c.in-Some.is h) (subst (λ z. IsBest s t ds qs z) c.in-Some-b.is k)
    (c.is_less.ensures.le c.if-is_less.false)

pub returns-in-None-b : goal.returns-in-None-b
returns-in-None-b c = λ s t ds ps qs h k.
    then_left s t ds ps qs c.in-Some.one (subst (λ z. IsBest s t ds ps z) c.in-Some.is h) (subst (λ z. IsBest s t ds qs z) c.in-None-b.is k)

pub returns-in-None : goal.returns-in-None
returns-in-None c = λ s t ds ps qs h k.
    then_right s t ds ps qs c.args.b (subst (λ z. IsBest s t ds ps z) c.in-None.is h) k
