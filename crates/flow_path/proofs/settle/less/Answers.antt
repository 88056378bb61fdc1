use Rattle.std.proofs.Common.{subst}
use Rattle.flow_path.specs.Distances.{IsNewAt, IsLeastNew}
use Rattle.flow_path.proofs.Settling.{less_first, less_old, less_keeps, less_takes}
use Rattle.flow_path.proofs.settle.less.Goals as goal

pub returns-in-None : goal.returns-in-None
returns-in-None c = λ s ds vs n h k. less_first s ds vs n c.args.b (subst (λ z. IsLeastNew s ds vs n z) c.in-None.is h) k

pub returns-in-None-b : goal.returns-in-None-b
returns-in-None-b c = λ s ds vs n h k. less_old s ds vs n c.in-Some.x (subst (λ z. IsLeastNew s ds vs n z) c.in-Some.is h)
    (subst (λ z. IsNewAt s ds vs n z) c.in-None-b.is k)

pub returns-then-is_less : goal.returns-then-is_less
returns-then-is_less c = λ s ds vs n h k.
    less_takes s ds vs n c.in-Some.x c.in-Some-b.y (subst (λ z. IsLeastNew s ds vs n z) c.in-Some.is h) (subst (λ z. IsNewAt s ds vs n z) c.in-Some-b.is k)
    (c.is_less.ensures.less c.if-is_less.true)

pub returns-else-is_less : goal.returns-else-is_less
returns-else-is_less c = λ s ds vs n h k.
    less_keeps s ds vs n c.in-Some.x c.in-Some-b.y (subst (λ z. IsLeastNew s ds vs n z) c.in-Some.is h) (subst (λ z. IsNewAt s ds vs n z) c.in-Some-b.is k)
    (c.is_less.ensures.le c.if-is_less.false)
