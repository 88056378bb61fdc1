use Rattle.std.proofs.Common.{subst, ◌≡◌, ◌≢◌, map}
use Rattle.std.specs.Prelude.{MatchBool}
use Rattle.first_front.proofs.Lists.{are_same}
use Rattle.first_front.proofs.interval.is_told.Goals as goal

pub returns-clause-told : goal.returns-clause-told
returns-clause-told c =
    subst (λ z. MatchBool c.eq.result (z ≡ map (λ x. x.items) c.args.counts.now.items) (z ≢ map (λ x. x.items) c.args.counts.now.items))
    c.in_ok-outcome.ensures.outcome.counts
    (are_same (λ x. x.items) c.in_ok-outcome.outcome.counts.items c.args.counts.now.items c.eq.result c.eq.ensures)
