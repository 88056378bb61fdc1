-- The order of costs.
use Rattle.std.proofs.Common.{◌≡◌, ℕ, ◌+◌, ◌<◌, ◌≤◌, refl, ap, ◌∙◌, subst, sym, List, [], ◌∷◌, ◌++◌, length, drop, get_or, arith, ⊎_elim, inl, inr}
use Rattle.std.specs.Prelude.{Bool, true, false, cond}
use Rattle.std.proofs.lemmas.Bool.{cases_lt}
use Rattle.std.proofs.lemmas.List.{drop_more}
use Rattle.flow_path.specs.declared.step.How.{How}
use Rattle.flow_path.specs.declared.cost.Cost.{Cost}
use Rattle.flow_path.specs.declared.step.Step.{Step}
use Rattle.flow_path.specs.Chains.{is_faint, faint_in}
use Rattle.flow_path.specs.Costs.{nothing_yet, add, cost_of, plus, IsLe, IsLess}

pub le_refl : (a : Cost) → IsLe a a
le_refl a = inr (refl, omega arith)

pub le_is : (a b : Cost) → a ≡ b → IsLe a b
le_is a b e = subst (λ z. IsLe a z) e (le_refl a)

pub le_trans : (a b c : Cost) → IsLe a b → IsLe b c → IsLe a c
le_trans a b c h k = ⊎_elim
    (λ (x : a.faint < b.faint). ⊎_elim
    (λ (y : b.faint < c.faint). inl (omega (arith, x, y)))
    (λ (y : (b.faint ≡ c.faint) × (b.steps ≤ c.steps)). let e = y.0 in inl (omega (arith, x, e)))
    k)
    (λ (x : (a.faint ≡ b.faint) × (a.steps ≤ b.steps)).
    let e = x.0 in
    let f = x.1 in
    ⊎_elim
    (λ (y : b.faint < c.faint). inl (omega (arith, e, y)))
    (λ (y : (b.faint ≡ c.faint) × (b.steps ≤ c.steps)).
    let i = y.0 in
    let j = y.1 in
    inr (omega (arith, e, i), omega (arith, f, j)))
    k)
    h

le_plus : (n : ℕ) (a b : Cost) → IsLe a b → IsLe (record { faint = n + a.faint; steps = 1 + a.steps }) (record { faint = n + b.faint; steps = 1 + b.steps })
le_plus n a b h = ⊎_elim
    (λ (x : a.faint < b.faint). inl (omega (arith, x)))
    (λ (x : (a.faint ≡ b.faint) × (a.steps ≤ b.steps)).
    let e = x.0 in
    let f = x.1 in
    inr (omega (arith, e), omega (arith, f)))
    h

pub le_add : (h : How) (a b : Cost) → IsLe a b → IsLe (add a h) (add b h)
le_add h a b l = le_plus (cond (is_faint h) 1 0) a b l

more_plus : (n : ℕ) (a : Cost) → IsLe a (record { faint = n + a.faint; steps = 1 + a.steps })
more_plus n a = ⊎_elim
    (λ (x : a.faint < n + a.faint). inl x)
    (λ (x : n + a.faint ≤ a.faint). inr (omega (arith, x), omega arith))
    (cases_lt a.faint (n + a.faint))

pub le_more : (h : How) (a : Cost) → IsLe a (add a h)
le_more h a = more_plus (cond (is_faint h) 1 0) a

faint_plus : (n : ℕ) (a : Cost) → n ≤ 1 → a.faint ≤ a.steps → n + a.faint ≤ 1 + a.steps
faint_plus n a h k = omega (arith, h, k)

pub faint_add : (h : How) (a : Cost) → a.faint ≤ a.steps → (add a h).faint ≤ (add a h).steps
faint_add h a k = faint_plus (cond (is_faint h) 1 0) a (go (is_faint h)) k
  where
    go : (b : Bool) → cond b 1 0 ≤ 1
    go true = omega arith
    go false = omega arith

-- so no cost is one step more than itself, or less
pub not_more : (a : Cost) → IsLe (record { faint = a.faint; steps = 1 + a.steps }) a → ⊥
not_more a h = ⊎_elim
    (λ (x : a.faint < a.faint). omega (arith, x))
    (λ (x : (a.faint ≡ a.faint) × (1 + a.steps ≤ a.steps)). let e = x.1 in omega (arith, e))
    h

pub less_le : (a b : Cost) → IsLess a b → IsLe a b
less_le a b h = ⊎_elim
    (λ (x : a.faint < b.faint). inl x)
    (λ (x : (a.faint ≡ b.faint) × (a.steps < b.steps)). let f = x.1 in inr (x.0, omega (arith, f)))
    h

pub less_then : (a b c : Cost) → IsLess a b → IsLe b c → IsLess a c
less_then a b c h k = ⊎_elim
    (λ (x : a.faint < b.faint). ⊎_elim
    (λ (y : b.faint < c.faint). inl (omega (arith, x, y)))
    (λ (y : (b.faint ≡ c.faint) × (b.steps ≤ c.steps)). let e = y.0 in inl (omega (arith, x, e)))
    k)
    (λ (x : (a.faint ≡ b.faint) × (a.steps < b.steps)).
    let e = x.0 in
    let f = x.1 in
    ⊎_elim
    (λ (y : b.faint < c.faint). inl (omega (arith, e, y)))
    (λ (y : (b.faint ≡ c.faint) × (b.steps ≤ c.steps)).
    let i = y.0 in
    let j = y.1 in
    inr (omega (arith, e, i), omega (arith, f, j)))
    k)
    h

pub not_less : (a b : Cost) → IsLess a b → IsLe b a → ⊥
not_less a b h k = ⊎_elim
    (λ (x : a.faint < a.faint). omega (arith, x))
    (λ (x : (a.faint ≡ a.faint) × (a.steps < a.steps)). let f = x.1 in omega (arith, f))
    (less_then a b a h k)

pub nothing_le : (a : Cost) → IsLe nothing_yet a
nothing_le a = ⊎_elim
    (λ (x : 0 < a.faint). inl x)
    (λ (x : a.faint ≤ 0). inr (omega (arith, x), omega arith))
    (cases_lt 0 a.faint)

pub le_both : (a b : Cost) → IsLe a b → IsLe b a → (a.faint ≡ b.faint) × (a.steps ≡ b.steps)
le_both a b h k = ⊎_elim
    (λ (x : a.faint < b.faint). absurd (not_less a b (inl x) k))
    (λ (x : (a.faint ≡ b.faint) × (a.steps ≤ b.steps)). ⊎_elim
    (λ (y : b.faint < a.faint). absurd (not_less b a (inl y) h))
    (λ (y : (b.faint ≡ a.faint) × (b.steps ≤ a.steps)).
    let f = x.1 in
    let g = y.1 in
    (x.0, omega (arith, f, g)))
    k)
    h

-- what is added on both sides
pub plus_le : (a b c : Cost) → IsLe a b → IsLe (plus a c) (plus b c)
plus_le a b c h = ⊎_elim
    (λ (x : a.faint < b.faint). inl (omega (arith, x)))
    (λ (x : (a.faint ≡ b.faint) × (a.steps ≤ b.steps)).
    let e = x.0 in
    let f = x.1 in
    inr (omega (arith, e), omega (arith, f)))
    h

pub plus_back : (a b c : Cost) → IsLe (plus a c) (plus b c) → IsLe a b
plus_back a b c h = ⊎_elim
    (λ (x : a.faint + c.faint < b.faint + c.faint). inl (omega (arith, x)))
    (λ (x : (a.faint + c.faint ≡ b.faint + c.faint) × (a.steps + c.steps ≤ b.steps + c.steps)).
    let e = x.0 in
    let f = x.1 in
    inr (omega (arith, e), omega (arith, f)))
    h

pub cost_is : (a b : Cost) → a.faint ≡ b.faint → a.steps ≡ b.steps → a ≡ b
cost_is a b e f = ap (λ z. record { faint = z; steps = a.steps }) e ∙ ap (λ z. record { faint = b.faint; steps = z }) f

-- faint steps of two chains, one after the other
pub faint_append : (xs ys : List Step) → faint_in (xs ++ ys) ≡ faint_in xs + faint_in ys
faint_append [] ys = omega arith
faint_append (x ∷ xs) ys = let h = faint_append xs ys in omega (arith, h)

-- one step more in front
cost_cons : (x : Step) (xs : List Step) → cost_of (x ∷ xs) ≡ add (cost_of xs) x.part.how
cost_cons x xs = let e : length (x ∷ xs) ≡ 1 + length xs = omega arith in cost_is (cost_of (x ∷ xs)) (add (cost_of xs) x.part.how) refl e

pub cost_more : (xs : List Step) (i : ℕ) (x : Step) (c d : Cost) → i < length xs → c ≡ cost_of (drop (i + 1) xs) → d ≡ add c (get_or xs i x).part.how
    → d ≡ cost_of (drop i xs)
cost_more xs i x c d h e f =
    f ∙ ap (λ z. add z (get_or xs i x).part.how) e ∙ sym (ap cost_of (drop_more xs i x h) ∙ cost_cons (get_or xs i x) (drop (i + 1) xs))
