-- The loop of waking.
use Rattle.std.proofs.Common.{◌≡◌, ℕ, zero, suc, ◌<◌, refl, sym, ap, ◌∙◌, List, [], ◌∷◌, length, arith}
use Rattle.std.specs.Prelude.{Bool, ◌||◌, Some, slice_get}
use Rattle.label_infer.specs.declared.constraints.Condition.{Condition}
use Rattle.label_infer.specs.ConstraintsOf.{constraint_of}
use Rattle.label_infer.specs.Work.{waits_at, woken}
use Rattle.label_infer.proofs.Taking.{woken_length, woken_at}

ext : (xs ys : List Bool) → length xs ≡ length ys → ((k : ℕ) → k < length xs → waits_at xs k ≡ waits_at ys k) → xs ≡ ys
ext [] [] h f = refl
ext [] (y ∷ ys) h f = absurd (omega (arith, h))
ext (x ∷ xs) [] h f = absurd (omega (arith, h))
ext (x ∷ xs) (y ∷ ys) h f =
    let tail : xs ≡ ys = ext xs ys (omega (arith, h)) (λ k l. f (suc k) (omega (arith, l))) in
    ap (λ z. z ∷ xs) (f 0 (omega arith)) ∙ ap (λ z. y ∷ z) tail

some_at : (cs : List Condition) (k : ℕ) → k < length cs → (c : Condition) × (slice_get cs k ≡ Some c)
some_at [] k h = absurd (omega (arith, h))
some_at (c ∷ cs) zero h = (c, refl)
some_at (c ∷ cs) (suc k) h = some_at cs k (omega (arith, h))

pub all_woken : (x : ℕ) (cs : List Condition) (ws ws' : List Bool) → length ws ≡ length cs → length ws' ≡ length ws →
    ((k : ℕ) (c : Condition) → k < length cs → slice_get cs k ≡ Some c → waits_at ws' k ≡ (waits_at ws k || (constraint_of c).have.has x)) → ws' ≡ woken x cs ws
all_woken x cs ws ws' fit len f =
    let wl = woken_length x cs ws in
    ext ws' (woken x cs ws) (omega (arith, len, wl)) (λ k l.
    let lk : k < length cs = omega (arith, l, len, fit) in
    let c = some_at cs k lk in
    f k c.0 lk c.1 ∙ sym (woken_at x cs ws k c.0 c.1 (omega (arith, l, len))))
