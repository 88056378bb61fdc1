use Rattle.std.proofs.Common.{ap, sym, ◌∙◌, map, eqb, arith}
use Rattle.std.specs.Cmp.Lexicographic.{pointwise}
use Rattle.std.specs.Set.{distinct_count}
use Rattle.first_front.proofs.Constant.{no_cheaper}
use Rattle.first_front.proofs.interval.Interval.from.Goals as goal

pub returns-clause-interval : goal.returns-clause-interval
returns-clause-interval c = record {
  some = c.requires.some;
  last = c.in_ok-last.ensures.last;
  things = c.different-things.ensures
      ∙ (ap (λ z. distinct_count (pointwise eqb) (map (λ x. x.items) z)) c.deref.ensures.value
      ∙ ap (distinct_count (pointwise eqb)) c.in_ok-outcome.ensures.outcome.shown);
  cost = c.in_ok-outcome.ensures.outcome.cost;
  latest = c.in_ok-outcome.ensures.outcome.latest;
  short = λ n from to.
      let last = c.in_ok-last.ensures.last in
      let same = last.same c.in_ok-last.last last.from (omega arith) ∙ sym (last.same n from to) in
      let later = no_cheaper c.args.varied.now n c.in_ok-last.last c.args.classes.now (omega (arith, from, c.requires.some)) to same in
      omega (arith, later.1, c.in_ok-last.ensures.short);
  cheapest = λ n from to. no_cheaper c.args.varied.now c.args.first n c.args.classes.now c.requires.some from (c.in_ok-last.ensures.last.same n from to);
}
