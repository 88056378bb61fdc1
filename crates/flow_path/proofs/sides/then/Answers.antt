use Rattle.std.proofs.Common.{subst, sym, ◌++◌}
use Rattle.flow_path.specs.Steps.{to}
use Rattle.flow_path.specs.Distances.{IsBest, IsFound, PartCosts, GoalCosts, SideCosts}
use Rattle.flow_path.proofs.Firsts.{step_at, then_none, then_first, then_take, then_keep}
use Rattle.flow_path.proofs.sides.then.Goals as goal

pub returns-in-None-clause-goal : goal.returns-in-None-clause-goal
returns-in-None-clause-goal c = λ s t ds ss ps h g k. then_none (PartCosts s t ds) (GoalCosts s t ds) (step_at c.args.rule c.args.pos c.args.side)
    (λ p d v. (g, v)) (λ p d w. w.1) ss ps c.args.slot (subst (λ z. IsBest s t ds ps z) c.in-None.is h) k

pub returns-in-None-slot-clause-goal : goal.returns-in-None-slot-clause-goal
returns-in-None-slot-clause-goal c = λ s t ds ss ps h g k.
    let q = subst (λ z. IsBest s t ds ps z) c.in-Some.is h in
    subst (λ z. IsFound (GoalCosts s t ds) (ss ++ to c.args.rule c.args.pos c.args.side ps) z) (sym c.found_by.ensures)
    (then_first (PartCosts s t ds) (GoalCosts s t ds) (step_at c.args.rule c.args.pos c.args.side) (λ p d v. (g, v))
    (λ p d w. w.1) ss ps c.in-Some.b.part c.in-Some.b.cost (subst (λ z. IsFound (GoalCosts s t ds) ss z) c.in-None-slot.is k) q)

pub returns-then-is_less-clause-goal : goal.returns-then-is_less-clause-goal
returns-then-is_less-clause-goal c = λ s t ds ss ps h g k.
    let q = subst (λ z. IsBest s t ds ps z) c.in-Some.is h in
    subst (λ z. IsFound (GoalCosts s t ds) (ss ++ to c.args.rule c.args.pos c.args.side ps) z) (sym c.found_by-then-is_less.ensures)
    (then_take (PartCosts s t ds) (GoalCosts s t ds) (step_at c.args.rule c.args.pos c.args.side) (λ p d v. (g, v))
    (λ p d w. w.1) ss ps c.in-Some.b.part c.in-Some.b.cost c.in-Some-slot.f.step c.in-Some-slot.f.cost
    (subst (λ z. IsFound (GoalCosts s t ds) ss z) c.in-Some-slot.is k) (c.is_less.ensures.less c.if-is_less.true) q)

pub returns-else-is_less-clause-goal : goal.returns-else-is_less-clause-goal
returns-else-is_less-clause-goal c = λ s t ds ss ps h g k.
    let q = subst (λ z. IsBest s t ds ps z) c.in-Some.is h in
    then_keep (PartCosts s t ds) (GoalCosts s t ds) (step_at c.args.rule c.args.pos c.args.side) (λ p d v. (g, v))
    (λ p d w. w.1) ss ps c.in-Some.b.part c.in-Some.b.cost c.in-Some-slot.f.step c.in-Some-slot.f.cost
    (subst (λ z. IsFound (GoalCosts s t ds) ss z) c.in-Some-slot.is k) (c.is_less.ensures.le c.if-is_less.false) q

pub returns-in-None-clause-side : goal.returns-in-None-clause-side
returns-in-None-clause-side c = λ s t ds y ss ps h g k. then_none (PartCosts s t ds) (SideCosts s t ds y) (step_at c.args.rule c.args.pos c.args.side)
    (λ p d v. (g, v)) (λ p d w. w.1) ss ps c.args.slot (subst (λ z. IsBest s t ds ps z) c.in-None.is h) k

pub returns-in-None-slot-clause-side : goal.returns-in-None-slot-clause-side
returns-in-None-slot-clause-side c = λ s t ds y ss ps h g k.
    let q = subst (λ z. IsBest s t ds ps z) c.in-Some.is h in
    subst (λ z. IsFound (SideCosts s t ds y) (ss ++ to c.args.rule c.args.pos c.args.side ps) z) (sym c.found_by.ensures)
    (then_first (PartCosts s t ds) (SideCosts s t ds y) (step_at c.args.rule c.args.pos c.args.side) (λ p d v. (g, v))
    (λ p d w. w.1) ss ps c.in-Some.b.part c.in-Some.b.cost (subst (λ z. IsFound (SideCosts s t ds y) ss z) c.in-None-slot.is k) q)

pub returns-then-is_less-clause-side : goal.returns-then-is_less-clause-side
returns-then-is_less-clause-side c = λ s t ds y ss ps h g k.
    let q = subst (λ z. IsBest s t ds ps z) c.in-Some.is h in
    subst (λ z. IsFound (SideCosts s t ds y) (ss ++ to c.args.rule c.args.pos c.args.side ps) z) (sym c.found_by-then-is_less.ensures)
    (then_take (PartCosts s t ds) (SideCosts s t ds y) (step_at c.args.rule c.args.pos c.args.side) (λ p d v. (g, v))
    (λ p d w. w.1) ss ps c.in-Some.b.part c.in-Some.b.cost c.in-Some-slot.f.step c.in-Some-slot.f.cost
    (subst (λ z. IsFound (SideCosts s t ds y) ss z) c.in-Some-slot.is k) (c.is_less.ensures.less c.if-is_less.true) q)

pub returns-else-is_less-clause-side : goal.returns-else-is_less-clause-side
returns-else-is_less-clause-side c = λ s t ds y ss ps h g k.
    let q = subst (λ z. IsBest s t ds ps z) c.in-Some.is h in
    then_keep (PartCosts s t ds) (SideCosts s t ds y) (step_at c.args.rule c.args.pos c.args.side) (λ p d v. (g, v))
    (λ p d w. w.1) ss ps c.in-Some.b.part c.in-Some.b.cost c.in-Some-slot.f.step c.in-Some-slot.f.cost
    (subst (λ z. IsFound (SideCosts s t ds y) ss z) c.in-Some-slot.is k) (c.is_less.ensures.le c.if-is_less.false) q
