use Rattle.std.proofs.Common.{◌≡◌, true, sym, ap, subst, ◌∙◌}
use Rattle.label_lattice.specs.Order.{lattice_of}
use Rattle.part_cache.proofs.Flat.{place_is, old_set, has_is, brought_body, brought_view, look_own}
use Rattle.part_cache.proofs.cache.PartCache.touch_held.Goals as goal

pub bring-requires-clause-set : goal.bring-requires-clause-set
bring-requires-clause-set c =
    old_set c.self.inside c.self.invariant c.args.self.now c.self.view_is c.args.tag c.args.label.number c.requires.label _
    (place_is c.from.result c.args.label.number c.args.sets c.self.inside.sets c.set_of.result c.args.tag c.from.ensures (c.requires.sets
    ∙ sym (ap (λ v. v.sets) c.self.view_is)) c.set_of.ensures) c.index_mut.result.now c.index_mut.ensures.value

pub invariant_of-self : goal.invariant_of-self
invariant_of-self c =
    brought_body c.self.inside c.self.invariant c.args.self.now c.self.view_is c.args.tag c.args.label.number c.requires.label _
    (place_is c.from.result c.args.label.number c.args.sets c.self.inside.sets c.set_of.result c.args.tag c.from.ensures (c.requires.sets
    ∙ sym (ap (λ v. v.sets) c.self.view_is)) c.set_of.ensures) c.index_mut.result.now c.index_mut.ensures.value c.bring.new.self c.bring.result
    c.bring.ensures.row c.bring.ensures.set

pub returns-clause-touched : goal.returns-clause-touched
returns-clause-touched c =
    brought_view c.self.inside c.self.invariant c.args.self.now c.self.view_is c.args.tag c.args.label.number c.requires.label _
    (place_is c.from.result c.args.label.number c.args.sets c.self.inside.sets c.set_of.result c.args.tag c.from.ensures (c.requires.sets
    ∙ sym (ap (λ v. v.sets) c.self.view_is)) c.set_of.ensures) c.index_mut.result.now c.index_mut.ensures.value c.bring.new.self
    c.bring.result c.bring.ensures.row

pub returns-clause-found : goal.returns-clause-found
returns-clause-found c t =
    look_own c.args.self.now c.self.inside c.self.view_is c.args.tag c.args.label.number c.requires.label
    (subst (λ o. (lattice_of o).flows c.args.label.number c.args.label.number ≡ true) c.deref.ensures (c.laws.ensures.lattice.same c.args.label.number))
    (sym (has_is c.self.inside c.self.invariant c.args.self.now c.self.view_is c.args.tag c.args.label.number c.requires.label _
    (place_is c.from.result c.args.label.number c.args.sets c.self.inside.sets c.set_of.result c.args.tag c.from.ensures (c.requires.sets
    ∙ sym (ap (λ v. v.sets) c.self.view_is)) c.set_of.ensures) c.index_mut.result.now c.index_mut.ensures.value c.bring.result c.bring.ensures.held) ∙ t)

pub returns-clause-held : goal.returns-clause-held
returns-clause-held c =
    has_is c.self.inside c.self.invariant c.args.self.now c.self.view_is c.args.tag c.args.label.number c.requires.label _
    (place_is c.from.result c.args.label.number c.args.sets c.self.inside.sets c.set_of.result c.args.tag c.from.ensures (c.requires.sets
    ∙ sym (ap (λ v. v.sets) c.self.view_is)) c.set_of.ensures) c.index_mut.result.now c.index_mut.ensures.value c.bring.result c.bring.ensures.held
