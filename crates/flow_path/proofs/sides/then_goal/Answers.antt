use Rattle.std.proofs.lemmas.Bool.{both_ways}
use Rattle.flow_path.specs.Steps.{to}
use Rattle.flow_path.specs.Distances.{GoalCosts}
use Rattle.flow_path.proofs.Firsts.{goal_skips, no_steps_by}
use Rattle.flow_path.proofs.sides.then_goal.Goals as goal

pub returns-then-is_goal : goal.returns-then-is_goal
returns-then-is_goal c = λ ds bs ps h k. c.then_there.ensures c.args.p.now ds bs ps h (c.is_goal.ensures.goal c.if-is_goal.true) k

pub returns-else-is_goal : goal.returns-else-is_goal
returns-else-is_goal c = λ ds bs ps h k.
    goal_skips c.args.p.now ds bs (to c.args.rule c.args.pos c.args.side ps) c.args.target.now c.args.slot
    (no_steps_by (GoalCosts c.args.p.now c.args.target.now ds) c.args.rule c.args.pos c.args.side ps
    (λ p d w. both_ways c.is_goal.result c.if-is_goal.false (c.is_goal.ensures.only w.0))) k
