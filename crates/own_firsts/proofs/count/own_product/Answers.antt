use Rattle.std.proofs.Common.{◌≡◌, ℕ, suc, ◌+◌, ◌*◌, ◌<◌, List, [], length, map, sym, ap, ◌∙◌, subst, arith, Vec}
use Rattle.std.specs.Prelude.{Option, slice_index_or}
use Rattle.std.specs.declared.alloc.Global.{Global}
use Rattle.std.proofs.lemmas.List.{get_or-map}
use Rattle.sharp_count.specs.Count.{fitting}
use Rattle.own_firsts.specs.Count.{own_by, own, firsts_at, first_at, many_at}
use Rattle.own_firsts.proofs.count.own_product.Goals as goal

one_level : (t : ℕ) (firsts : ℕ → ℕ → ℕ) (counts : ℕ → ℕ) (l : ℕ) (r : Option ℕ) → r ≡ fitting (own_by t (firsts l) (counts l) * own t firsts l counts)
    → r ≡ fitting (own t firsts (l + 1) counts)
one_level t firsts counts l r e = let next : suc l ≡ l + 1 = omega arith in subst (λ z. r ≡ fitting (own t firsts z counts)) next e

pub loop-firsts-preserved : goal.loop-firsts-preserved
loop-firsts-preserved c =
    let t = c.args.t in
    let l = c.loop-firsts.firsts-index in
    let f : Vec ℕ Global → List ℕ = λ v. v.items in
    let listed : List (List ℕ) = map f c.args.levels.now in
    let lt : l < length c.args.levels.now = c.loop-firsts-test.true in
    let at : firsts_at listed l ≡ c.as_slice.result.now =
    get_or-map f c.args.levels.now l c.firsts-item.result [] lt ∙ ap f (sym c.firsts-item.is) ∙ sym c.as_slice.ensures.value in
    let its : c.own_count.result ≡ fitting (own_by t (first_at listed l) (many_at listed l)) =
    subst (λ z. c.own_count.result ≡ fitting (own_by t (λ i. slice_index_or z i 0) (length z))) (sym at) c.own_count.ensures in
    one_level t (first_at listed) (many_at listed) l c.product-count.result (c.product-count.ensures _ _ its c.loop-firsts.invariant)
