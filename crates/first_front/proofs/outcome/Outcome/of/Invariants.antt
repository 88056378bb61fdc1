use Rattle.std.proofs.Common.{map}
use Rattle.first_front.proofs.Summing.{Summed}
use Rattle.first_front.proofs.outcome.Outcome.of.Given as goal

abbrev pub invariant-loop-class : goal.invariant-loop-class
invariant-loop-class l = Summed l.varied l.first l.classes l.class-index (map (λ x. x.items) l.counts.items)
    (map (λ x. x.items) l.shown.items) l.cost l.latest
