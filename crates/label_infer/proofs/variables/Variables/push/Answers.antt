use Rattle.std.proofs.Common.{◌≡◌, ◌++◌, ◌∷◌, [], ap, ◌∙◌, ◌<◌, arith, length, rules, sym, subst}
use Rattle.std.proofs.lemmas.List.{with_items_is, length_push}
use Rattle.label_infer.specs.Holders.{Tell, has_label}
use Rattle.label_infer.proofs.Holding.{told_push, room_push, room_same, tell_same}
use Rattle.label_infer.proofs.variables.Variables.push.Goals as goal

pub invariant_of-self-2 : goal.invariant_of-self-2
invariant_of-self-2 c =
    let v = c.self.inside in
    let inv = c.self.invariant in
    let items = c.in_ok-push.ensures.items in
    let an = c.add_holder.new.holders in
    let vl = c.deref_mut.ensures.len in
    let vr = inv.rows in
    let dv = ap length c.deref_mut.ensures.value in
    let len : length an ≡ v.holders.len = omega (arith, vl, dv, vr, c.add_holder.ensures.rows) in
    let is = with_items_is v.holders an len in
    let n : c.len-x.result ≡ length v.labels.items = search rules in
    let more = c.add_holder.ensures.told (has_label v.labels.items) (subst (λ z. Tell z (has_label v.labels.items)) (sym c.deref_mut.ensures.value) inv.told) in
    let above = c.room_for-self-inside.ensures in
    let a = c.args.label in
    record {
      small = let r : length v.labels.items < 3072 = search rules in let p = length_push v.labels.items a in let q = ap length items in omega (arith, r, p, q);
      rows = ap length is ∙ c.add_holder.ensures.rows;
      told = told_push v.labels.items a _ c.len-x.result n (tell_same _ an _ is more) c.push.new.self.items items;
      room = room_same (v.labels.items ++ a ∷ []) c.push.new.self.items _ items (room_push v.labels.items a v.room _ inv.room above.more above.above);
      end = above.end;
    }
