use Rattle.std.proofs.Common.{◌≡◌, ◌+◌, ◌*◌, ◌/◌, ◌%◌, sym, ap, ◌∙◌, subst, arith}
use Rattle.leak_bound.specs.Rising.{rising}
use Rattle.sharp_count.specs.Count.{fitting}
use Rattle.sharp_count.proofs.Growing.{with_one_more}
use Rattle.sharp_count.proofs.Fitting.{checked, over_more}
use Rattle.sharp_count.proofs.lists.with_one_more.Goals as goal

pub returns-in_default : goal.returns-in_default
returns-in_default c =
    let v = c.args.values in
    let s = c.args.entries + v in
    let e : (c.args.lists / v) * s + (c.args.lists % v) * s / v ≡ rising (v + 1) c.args.entries =
    subst (λ z. (z / v) * s + (z % v) * s / v ≡ rising (v + 1) c.args.entries) (sym c.requires.lists) (with_one_more v c.args.entries c.requires.values) in
    over_more ((c.args.lists / v) * s) (rising (v + 1) c.args.entries) (omega (arith, e)) (c.in_default.ensures)

pub returns : goal.returns
returns c =
    let v = c.args.values in
    let s = c.args.entries + v in
    let e : (c.args.lists / v) * s + (c.args.lists % v) * s / v ≡ rising (v + 1) c.args.entries =
    subst (λ z. (z / v) * s + (z % v) * s / v ≡ rising (v + 1) c.args.entries) (sym c.requires.lists) (with_one_more v c.args.entries c.requires.values) in
    let w : c.in-Some.whole ≡ (c.args.lists / v) * s = c.in-Some.ensures.1 in
    checked c.checked_add.result _ c.checked_add.ensures ∙ ap fitting (ap (λ z. z + (c.args.lists % v) * s / v) w ∙ e)
