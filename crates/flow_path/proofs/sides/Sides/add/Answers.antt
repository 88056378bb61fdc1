use Rattle.std.proofs.Common.{rules, ◌≡◌, ◌<◌, ◌∙◌, refl, sym, subst, length}
use Rattle.std.specs.Prelude.{None}
use Rattle.std.proofs.lemmas.Option.{none-some}
use Rattle.flow_path.specs.Steps.{all_of}
use Rattle.flow_path.specs.Distances.{IsFound, SideCosts}
use Rattle.flow_path.proofs.Lists.{get_same}
use Rattle.flow_path.proofs.Firsts.{add_side, skip_side}
use Rattle.flow_path.proofs.sides.Sides.add.Goals as goal

pub returns-in-Some : goal.returns-in-Some
returns-in-Some c = λ ds bs ps h S.
    let s = c.args.p.now in
    let t = c.args.target.now in
    let y = c.in-Some.y in
    let vs = c.args.self.now.variables.items in
    let l : c.in-Some.y < length c.args.self.now.variables.items = search rules in
    let side = c.in-Some.ensures.some.0 in
    let here = subst (λ z. IsFound (SideCosts c.args.p.now c.args.target.now ds c.in-Some.y) (all_of bs) z) (get_same vs y None c.index-slot.result.now l
    ∙ sym c.index-slot.ensures) (S.each y (subst (λ z. c.in-Some.y < z) S.fit l)) in
    add_side s t ds bs ps c.args.rule c.args.pos c.args.side c.args.self.now S _ (c.then_goal-self.ensures ds bs ps h S.goal) y side l c.then.result
    (c.then.ensures.side s t ds y (all_of bs) ps h side here) refl refl

pub returns-in-None : goal.returns-in-None
returns-in-None c = λ ds bs ps h S.
    let m : c.len.result ≡ length c.args.self.now.variables.items = search rules in
    skip_side c.args.p.now c.args.target.now ds bs ps c.args.rule c.args.pos c.args.side c.args.self.now S _ (c.then_goal-self.ensures ds bs ps h S.goal)
    (λ y l e. none-some y (sym c.in-None.is ∙ c.variable_of.ensures.none y (subst (λ z. y < z) (sym m) l) e)) refl refl
