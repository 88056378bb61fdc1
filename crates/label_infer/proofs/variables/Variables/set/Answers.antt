use Rattle.std.proofs.Common.{◌≡◌, ap, ◌∙◌, arith, length, length-set, refl, rules, sym, subst}
use Rattle.std.specs.Prelude.{slice_get, Some}
use Rattle.std.specs.Vec.{with_items}
use Rattle.std.proofs.lemmas.List.{with_items_is}
use Rattle.std.proofs.lemmas.Option.{slice_get_read}
use Rattle.label_lattice.specs.declared.label.Label.{Label}
use Rattle.label_infer.specs.Holders.{Tell, has_label}
use Rattle.label_infer.proofs.Holding.{told_set, room_set, tell_same, more_of, less_of}
use Rattle.label_infer.proofs.variables.Variables.set.Goals as goal

pub invariant_of-self : goal.invariant_of-self
invariant_of-self c =
    let v = c.self.inside in
    let inv = c.self.invariant in
    let x = c.args.x in
    let old : Label = c.index.result.now in
    let rn = c.remove_holder.new.holders in
    let an = c.add_holder.new.holders in
    let vl = c.deref_mut.ensures.len in
    let vr = inv.rows in
    let dv = ap length c.deref_mut.ensures.value in
    let len1 : length rn ≡ v.holders.len = omega (arith, vl, dv, vr, c.remove_holder.ensures.rows) in
    let len2 : length an ≡ v.holders.len = omega (arith, vl, dv, vr, c.add_holder.ensures.rows) in
    let is1 : (with_items v.holders rn).items ≡ rn = with_items_is v.holders rn len1 in
    let is2 = with_items_is (with_items v.holders rn) an len2 in
    let here : slice_get v.labels.items x ≡ Some old = slice_get_read v.labels.items (length v.labels.items) x old refl (search rules) c.index.ensures in
    let first = c.remove_holder.ensures.told (has_label v.labels.items)
    (subst (λ z. Tell z (has_label v.labels.items)) (sym c.deref_mut.ensures.value) inv.told) in
    let second = c.add_holder.ensures.told (less_of (has_label v.labels.items) old.number x)
    (tell_same (less_of (has_label v.labels.items) old.number x) rn c.deref_mut-2.result.now (c.deref_mut-2.ensures.value ∙ is1) first) in
    let above = c.room_for-self-inside.ensures in
    record {
      small = let s = inv.small in let n = length-set v.labels.items x c.args.label in omega (arith, s, n);
      rows = ap length is2 ∙ c.add_holder.ensures.rows;
      told = told_set v.labels.items x old c.args.label _ here
          (tell_same (more_of (less_of (has_label v.labels.items) old.number x) c.args.label.number x) an _ is2 second);
      room = room_set v.labels.items x c.args.label v.room _ (search rules) inv.room above.more above.above;
      end = above.end;
    }
