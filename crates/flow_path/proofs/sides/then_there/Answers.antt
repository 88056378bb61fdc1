use Rattle.std.proofs.Common.{sym, subst, [], ◌∷◌, ◌++◌}
use Rattle.flow_path.specs.declared.step.Step.{Step}
use Rattle.flow_path.specs.Steps.{to, all_of}
use Rattle.flow_path.specs.Distances.{GoalCosts, IsGoalFound}
use Rattle.flow_path.proofs.Firsts.{there_keeps, there_takes, there_goes, none_in}
use Rattle.flow_path.proofs.sides.then_there.Goals as goal

pub returns-in-Some : goal.returns-in-Some
returns-in-Some c = λ s ds bs ps h g k.
    let b = to c.args.rule c.args.pos c.args.side ps in
    subst (λ z. IsGoalFound s c.args.target.now ds (bs ++ (b ∷ [])) z) (sym c.in-Some.is)
    (there_keeps s c.args.target.now _ _ _ c.in-Broken.is ds bs b _ (subst (λ z. IsGoalFound s c.args.target.now ds bs z) c.in-Some.is k))

pub returns-in-None : goal.returns-in-None
returns-in-None c = λ s ds bs ps h g k.
    let b = to c.args.rule c.args.pos c.args.side ps in
    there_takes s c.args.target.now _ _ _ c.in-Broken.is ds bs b c.then.result (subst (λ z. IsGoalFound s c.args.target.now ds bs z) c.in-None.is k)
    (c.then.ensures.goal s c.args.target.now ds [] ps h g (none_in Step (GoalCosts s c.args.target.now ds)))

pub returns-in-From : goal.returns-in-From
returns-in-From c = λ s ds bs ps h g k.
    let b = to c.args.rule c.args.pos c.args.side ps in
    there_goes s c.args.target.now _ _ c.in-From.is ds bs b c.args.slot c.then-in-From.result k
    (λ m. c.then-in-From.ensures.goal s c.args.target.now ds (all_of bs) ps h g m)
