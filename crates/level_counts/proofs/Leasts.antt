-- The least of some numbers, and of more.
use Rattle.std.proofs.Common.{◌≡◌, ◌<◌, ◌≤◌, ℕ, ◌⊎◌, inl, inr, ⊎_elim, refl, sym, ap, ◌∙◌, subst, arith}
use Rattle.std.specs.Prelude.{cond, eqb, min}
use Rattle.std.proofs.lemmas.Bool.{cases_lt, ne_eqb}
use Rattle.level_counts.specs.Begun.{IsLeast}
use Rattle.level_counts.specs.Noted.{lesser}

pub least_same : (S T : ℕ → Type 0) (x : ℕ) → ((z : ℕ) → S z → T z) → ((z : ℕ) → T z → S z) → IsLeast S x → IsLeast T x
least_same S T x to from h = record {
  least = λ z t. h.least z (from z t);
  one = ⊎_elim (λ (s : S x). inl (to x s)) (λ (n : (x ≡ 0) × ((z : ℕ) → S z → ⊥)). inr (n.0, λ z t. n.1 z (from z t))) h.one;
}

pub least_one : (y : ℕ) → IsLeast (λ z. z ≡ y) y
least_one y = record { least = λ z e. omega (arith, e); one = inl refl }

none_left : (y : ℕ) → lesser 0 y ≡ y
none_left y = refl

none_right : (x : ℕ) → 0 < x → lesser x 0 ≡ x
none_right x h = ap (λ b. cond b 0 (cond (eqb 0 0) x (min x 0))) (ne_eqb x 0 (λ e. absurd (omega (arith, e, h))))

both_some : (x y : ℕ) → 0 < x → 0 < y → lesser x y ≡ min x y
both_some x y h k =
    ap (λ b. cond b y (cond (eqb y 0) x (min x y))) (ne_eqb x 0 (λ e. absurd (omega (arith, e, h))))
    ∙ ap (λ b. cond b x (min x y)) (ne_eqb y 0 (λ e. absurd (omega (arith, e, k))))

module _ (S T : ℕ → Type 0) (some : (z : ℕ) → S z → 0 < z) (more : (z : ℕ) → T z → 0 < z) where
  abbrev Both : ℕ → Type 0
  Both z = S z ⊎ T z

  only_right : (y : ℕ) → ((z : ℕ) → S z → ⊥) → IsLeast T y → IsLeast Both y
  only_right y none h = least_same T Both y (λ z t. inr t) (λ z b. ⊎_elim (λ (s : S z). absurd (none z s)) (λ (t : T z). t) b) h

  only_left : (x : ℕ) → ((z : ℕ) → T z → ⊥) → IsLeast S x → IsLeast Both x
  only_left x none h = least_same S Both x (λ z s. inl s) (λ z b. ⊎_elim (λ (s : S z). s) (λ (t : T z). absurd (none z t)) b) h

  two : (x y : ℕ) → S x → T y → IsLeast S x → IsLeast T y → IsLeast Both (min x y)
  two x y s t h k = record {
    least = λ z b. ⊎_elim (λ (a : S z). let l = h.least z a in omega (arith, l)) (λ (a : T z). let l = k.least z a in omega (arith, l)) b;
    one = ⊎_elim
        (λ (l : x < y). let e : x ≡ min x y = omega (arith, l) in inl (inl (subst S e s)))
        (λ (l : y ≤ x). let e : y ≡ min x y = omega (arith, l) in inl (inr (subst T e t)))
        (cases_lt x y);
  }

  pub least_both : (x y : ℕ) → IsLeast S x → IsLeast T y → IsLeast Both (lesser x y)
  least_both x y h k = ⊎_elim left (λ (n : (x ≡ 0) × ((z : ℕ) → S z → ⊥)). subst (IsLeast Both) (sym (ap (λ z. lesser z y) n.0)) (only_right y n.1 k)) h.one
    where
      left : S x → IsLeast Both (lesser x y)
      left s =
          ⊎_elim
          (λ (t : T y). subst (IsLeast Both) (sym (both_some x y (some x s) (more y t))) (two x y s t h k))
          (λ (n : (y ≡ 0) × ((z : ℕ) → T z → ⊥)). subst (IsLeast Both) (sym (ap (lesser x) n.0 ∙ none_right x (some x s))) (only_left x n.1 h))
          k.one

-- two numbers that are the least are one
pub one_least : (S : ℕ → Type 0) (x y : ℕ) → IsLeast S x → IsLeast S y → x ≡ y
one_least S x y h k = go h.one k.one
  where
    go : S x ⊎ ((x ≡ 0) × ((z : ℕ) → S z → ⊥)) → S y ⊎ ((y ≡ 0) × ((z : ℕ) → S z → ⊥)) → x ≡ y
    go (inl s) (inl t) = let a = h.least y t in let b = k.least x s in omega (arith, a, b)
    go (inl s) (inr n) = absurd (n.1 x s)
    go (inr n) (inl t) = absurd (n.1 y t)
    go (inr n) (inr m) = n.0 ∙ sym m.0
