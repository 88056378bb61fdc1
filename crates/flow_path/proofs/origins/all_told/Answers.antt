use Rattle.std.proofs.Common.{rules, ◌≡◌, ◌∙◌, ap, sym, subst}
use Rattle.label_lattice.specs.Order.{Order}
use Rattle.flow_path.specs.Collecting.{AreBelow}
use Rattle.flow_path.proofs.Placing.{below_begins, below_ends}
use Rattle.flow_path.proofs.Telling.{comes_small}
use Rattle.flow_path.proofs.origins.all_told.Goals as goal

pub loop-number-init : goal.loop-number-init
loop-number-init c = record {
  below = subst (λ z. AreBelow c.args.p.now c.args.spot.now 0 z) (sym c.new-told.ensures.items) (below_begins c.args.p.now c.args.spot.now);
}

pub returns : goal.returns
returns c =
    let e : c.loop-number.number ≡ c.size-number-end.result = search rules in
    let size = e ∙ c.size-number-end.ensures.value ∙ ap (λ (o : Order). o.size) c.lattice-lattice.ensures in
    below_ends c.args.p.now c.args.spot.now c.args.p.now.order.size c.loop-number.told.items
    (comes_small c.args.p.now c.requires.valid c.args.spot.now c.requires.omitted)
    (subst (λ z. AreBelow c.args.p.now c.args.spot.now z c.loop-number.told.items) size c.loop-number.invariant.below)
