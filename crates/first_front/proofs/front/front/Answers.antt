use Rattle.std.proofs.Common.{sym, subst, ap, ◌∙◌}
use Rattle.first_front.specs.Chosen.{chosen}
use Rattle.first_front.specs.Front.{IsFront}
use Rattle.first_front.proofs.Fronting.{is_front}
use Rattle.first_front.proofs.front.front.Goals as goal

pub returns-clause-front : goal.returns-clause-front
returns-clause-front c =
    let same = c.in_ok-front.ensures ∙ ap (chosen c.args.limit) c.deref.ensures.value in
    subst (IsFront c.args.varied.now c.args.classes.now c.args.limit) (sym same)
    (is_front c.args.varied.now c.args.classes.now c.args.limit c.in_ok-intervals.intervals.items c.in_ok-intervals.ensures.covers)
