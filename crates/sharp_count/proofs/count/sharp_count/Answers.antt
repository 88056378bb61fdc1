use Rattle.std.proofs.Common.{◌≡◌, ℕ, suc, ◌+◌, ◌*◌, ap, ◌∙◌, subst, get_or, arith}
use Rattle.std.specs.Prelude.{Option}
use Rattle.leak_bound.specs.Rising.{rising, sharp}
use Rattle.sharp_count.specs.Count.{fitting}
use Rattle.sharp_count.proofs.count.sharp_count.Goals as goal

one_level : (values counts : ℕ → ℕ) (l : ℕ) (r : Option ℕ) → r ≡ fitting (rising (values l) (counts l) * sharp values l counts)
    → r ≡ fitting (sharp values (l + 1) counts)
one_level values counts l r e = let next : suc l ≡ l + 1 = omega arith in subst (λ z. r ≡ fitting (sharp values z counts)) next e

pub loop-level-preserved : goal.loop-level-preserved
loop-level-preserved c =
    let level = get_or c.args.levels.now c.loop-level.level-index (record { mitigations = 0; first = 0 }) in
    one_level _ _ c.loop-level.level-index c.product-count.result
    (c.product-count.ensures _ _ (c.never_falling-lists.ensures ∙ ap (λ z. fitting (rising z level.mitigations)) c.values.ensures) c.loop-level.invariant)
