use Rattle.std.proofs.Common.{rules, ◌≡◌, ◌+◌, ◌≤◌, refl, ap, sym, subst}
use Rattle.std.specs.Prelude.{Option, None, Some, IfNone}
use Rattle.label_lattice.specs.declared.label.Label.{Label}
use Rattle.label_lattice.specs.Order.{Order}
use Rattle.flow_path.specs.Chains.{ComesFrom}
use Rattle.flow_path.specs.Ranks.{IsPlace}
use Rattle.flow_path.specs.Origins.{IsOrigin}
use Rattle.flow_path.specs.Collecting.{AreBelow}
use Rattle.flow_path.proofs.Placing.{below_more, below_skips}
use Rattle.flow_path.proofs.Standing.{place_within}
use Rattle.flow_path.proofs.origins.tell.Goals as goal

none_there : {A : Type 0} (o : Option A) (P : Type 0) → ((x : A) → o ≡ Some x → ⊥) → IfNone o P → P
none_there None P h p = p
none_there (Some x) P h p = absurd (h x refl)

pub insert-requires : goal.insert-requires
insert-requires c =
    let within = place_within c.args.lattice.now c.in-Some.new c.deref.result.now c.place-i.result c.place-i.ensures in
    subst (λ z. c.place-i.result ≤ z) c.deref.ensures.len within

pub returns-in_ok-insert : goal.returns-in_ok-insert
returns-in_ok-insert c = λ B.
    let s = c.args.p.now in
    let spot = c.args.spot.now in
    let w = c.in-Some.new in
    let own : (c.in-Some.new.label ≡ c.args.label) × IsOrigin c.args.p.now c.args.spot.now c.in-Some.new = search rules in
    let at = subst (λ (z : Order). IsPlace z c.in-Some.new c.args.told.now.items c.place-i.result) c.requires.lattice
    (subst (λ z. IsPlace c.args.lattice.now c.in-Some.new z c.place-i.result) c.deref.ensures.value c.place-i.ensures) in
    subst (λ z. AreBelow c.args.p.now c.args.spot.now (c.args.label.number + 1) z) (sym c.in_ok-insert.ensures.items)
    (below_more s spot c.args.label.number c.args.told.now.items w c.place-i.result (ap (λ (z : Label). z.number) own.0) own.1 at B)

pub returns-in_default : goal.returns-in_default
returns-in_default c =
    let none = none_there c.in_ok-new.field-0 (ComesFrom c.args.p.now c.args.spot.now c.args.label.number → ⊥) c.in_default.not-Some c.in_ok-new.ensures.none in
    λ B. below_skips c.args.p.now c.args.spot.now c.args.label.number c.args.told.now.items none B
