use Rattle.std.proofs.Common.{◌≡◌, true, sym, ap, subst, ◌<◌, ◌∙◌}
use Rattle.label_lattice.specs.Order.{lattice_of}
use Rattle.part_cache.proofs.Flat.{look_found}
use Rattle.part_cache.proofs.cache.PartCache.look_in_others.Goals as goal

pub returns-then-has : goal.returns-then-has
returns-then-has c =
    let size = c.size-number-end.ensures.value ∙ ap (λ o. o.size) c.deref-lattice.ensures in
    let below = subst (λ n. n < c.size-number-end.result) (sym c.new-label.ensures) c.loop-number-test.true in
    let flows = subst (λ o. (lattice_of o).flows c.new-label.result.number c.args.er.number ≡ true) c.deref-lattice.ensures
    (sym c.flows.ensures ∙ c.if-flows.true) in
    sym (look_found c.args.self.now c.self.inside c.self.view_is c.args.tag c.args.er.number c.new-label.result.number c.size-number-end.result
    size below flows (sym c.has.ensures ∙ c.if-has.true))
