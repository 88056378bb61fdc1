use Rattle.std.proofs.Common.{◌≡◌, true, sym, subst, ◌∙◌}
use Rattle.label_lattice.specs.Order.{lattice_of}
use Rattle.part_cache.proofs.Flat.{look_own, look_history}
use Rattle.part_cache.proofs.cache.PartCache.look.Goals as goal

pub returns-then-has-clause-found : goal.returns-then-has-clause-found
returns-then-has-clause-found c =
    c.if-has.true
    ∙ sym (look_own c.args.self.now c.self.inside c.self.view_is c.args.tag c.args.er.number c.requires
    (subst (λ o. (lattice_of o).flows c.args.er.number c.args.er.number ≡ true) c.deref.ensures (c.laws.ensures.lattice.same c.args.er.number))
    (sym c.has.ensures ∙ c.if-has.true))

pub returns-then-has-clause-history : goal.returns-then-has-clause-history
returns-then-has-clause-history c =
    look_history c.args.self.now c.self.inside c.self.view_is c.self.invariant c.args.tag c.args.er.number c.has.result (returns-then-has-clause-found c)

pub returns-else-has-clause-history : goal.returns-else-has-clause-history
returns-else-has-clause-history c =
    look_history c.args.self.now c.self.inside c.self.view_is c.self.invariant c.args.tag c.args.er.number c.look_in_others.result c.look_in_others.ensures
