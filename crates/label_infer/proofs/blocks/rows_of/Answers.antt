use Rattle.std.proofs.Common.{◌≡◌, ◌<◌, refl, arith, length, rules, subst, sym}
use Rattle.std.specs.Prelude.{slice_get, Some}
use Rattle.std.proofs.lemmas.Option.{slice_get_read}
use Rattle.label_infer.specs.declared.constraints.Condition.{Condition}
use Rattle.label_infer.specs.Blocks.{Includes}
use Rattle.label_infer.specs.Sets.{has_of}
use Rattle.label_infer.proofs.Blocking.{cover_more}
use Rattle.label_infer.proofs.blocks.rows_of.Goals as goal

pub loop-i-preserved : goal.loop-i-preserved
loop-i-preserved c =
    let cs = c.args.conditions.now in
    let i = c.loop-i.i in
    let d : Condition = c.index-conditions-i.result in
    let within : i < length cs = search rules in
    let there : slice_get cs i ≡ Some d = slice_get_read cs (length cs) i d refl within c.index-conditions-i.is in
    let e = c.in_ok-add_set.ensures in
    let n = e.fit in
    record {
      fit = omega (arith, n);
      cover = cover_more cs i c.loop-i.rows.items c.add_set.new.rows.items d c.loop-i.invariant.fit there c.loop-i.invariant.cover e.grow
          (λ r g. subst (λ (z : Condition). Includes r (has_of z.have.variables)) (sym c.index-conditions-i.is) (e.here r g));
    }
