use Rattle.std.proofs.Common.{◌≡◌, ℕ, suc, ◌+◌, ◌*◌, subst, arith}
use Rattle.std.specs.Prelude.{Option}
use Rattle.sharp_count.specs.Count.{fitting}
use Rattle.sharp_count.specs.Shared.{shared_by, shared}
use Rattle.sharp_count.proofs.shared_product.shared_product.Goals as goal

one_level : (t : ℕ) (firsts counts : ℕ → ℕ) (l : ℕ) (r : Option ℕ) → r ≡ fitting (shared_by t (firsts l) (counts l) * shared t firsts l counts)
    → r ≡ fitting (shared t firsts (l + 1) counts)
one_level t firsts counts l r e = let next : suc l ≡ l + 1 = omega arith in subst (λ z. r ≡ fitting (shared t firsts z counts)) next e

pub loop-level-preserved : goal.loop-level-preserved
loop-level-preserved c =
    one_level c.args.t _ _ c.loop-level.level-index c.product-count.result (c.product-count.ensures _ _ c.in_ok-lists.ensures c.loop-level.invariant)
