-- A record's number: for each level, how many lists of miss counts come before those of the level.
use Rattle.std.proofs.Common.{◌≡◌, ℕ, zero, suc, ◌+◌, ◌-◌, ◌*◌, ◌<◌, ◌≤◌, List, [], ◌∷◌, ◌++◌, length, Bool, true, false, refl, sym, ap, ◌∙◌, subst, ◌⊎◌}
use Rattle.std.proofs.Common.{inl, inr, ⊎_elim, arith}
use Rattle.std.specs.Prelude.{cond, eqb}
use Rattle.std.proofs.Math.Nat.{mul-le-mul_left}
use Rattle.std.proofs.lemmas.Bool.{cases_eq, cases_order, eqb-true, eq-eqb}
use Rattle.leak_bound.specs.Records.{Entry, Each, Fits, FromOn, NeverFalls}
use Rattle.leak_bound.specs.Rising.{rising, sharp}
use Rattle.leak_bound.proofs.Choose.{pascal-at, some-at, rising-le}

-- equal numbers in one base have equal digits
pub digits_same : (b x c x' c' : ℕ) → x < b → x' < b → x + b * c ≡ x' + b * c' → (x ≡ x') × (c ≡ c')
digits_same b x c x' c' h h' e =
    ⊎_elim
    (λ (eq : c ≡ c'). let m = ap (λ n. b * n) eq in (omega (arith, m), eq))
    (⊎_elim
    (λ (lt : c < c'). let up : c + 1 ≤ c' = omega arith in absurd (omega (arith, mul-le-mul_left b up)))
    (λ (lt : c' < c). let up : c' + 1 ≤ c = omega arith in absurd (omega (arith, mul-le-mul_left b up))))
    (cases_order c c')

-- how many entries are of a level that is picked
abbrev pub picked : (ℕ → Bool) → List Entry → ℕ
picked pick [] = 0
picked pick (e ∷ r) = cond (pick e.0) 1 0 + picked pick r

abbrev pub is_at : ℕ → ℕ → Bool
is_at l x = eqb x l

bit_le : (b : Bool) → cond b 1 0 ≤ 1
bit_le true = omega arith
bit_le false = omega arith

pub picked_length : (pick : ℕ → Bool) (r : List Entry) → picked pick r ≤ length r
picked_length pick [] = omega arith
picked_length pick (e ∷ r) = omega (arith, bit_le (pick e.0), picked_length pick r)

pub picked_all : (r : List Entry) → picked (λ l. true) r ≡ length r
picked_all [] = refl
picked_all (e ∷ r) = omega (arith, picked_all r)

pub picked-append : (pick : ℕ → Bool) (a b : List Entry) → picked pick (a ++ b) ≡ picked pick a + picked pick b
picked-append pick [] b = omega arith
picked-append pick (e ∷ a) b = omega (arith, picked-append pick a b)

-- entries of a level that is picked are among those that are picked
pub picked_at : (pick : ℕ → Bool) (l : ℕ) → pick l ≡ true → (r : List Entry) → picked (is_at l) r ≤ picked pick r
picked_at pick l f [] = omega arith
picked_at pick l f (e ∷ r) = go (eqb e.0 l) refl (picked_at pick l f r)
  where
    go : (b : Bool) → eqb e.0 l ≡ b → picked (is_at l) r ≤ picked pick r → cond b 1 0 + picked (is_at l) r ≤ cond (pick e.0) 1 0 + picked pick r
    go true q ih = let here = ap (λ z. cond {A = ℕ} (pick z) 1 0) (eqb-true e.0 l q) ∙ ap (λ z. cond {A = ℕ} z 1 0) f in omega (arith, ih, here)
    go false q ih = omega (arith, ih)

pub none_picked : (pick : ℕ → Bool) (r : List Entry) → picked pick r ≡ 0 → Each (λ e. pick e.0 ≡ false) r
none_picked pick [] h = tt
none_picked pick (e ∷ r) h = (go (pick e.0) h, none_picked pick r (omega (arith, h)))
  where
    go : (b : Bool) → cond b 1 0 + picked pick r ≡ 0 → b ≡ false
    go true q = absurd (omega (arith, q))
    go false q = refl

-- records of one length with equal levels
pub picked_fits : (pick : ℕ → Bool) (r r' : List Entry) → Fits r r' → length r ≡ length r' → picked pick r ≡ picked pick r'
picked_fits pick [] [] f e = refl
picked_fits pick [] (y ∷ r') f e = absurd (omega (arith, e))
picked_fits pick (x ∷ r) [] f e = absurd (omega (arith, e))
picked_fits pick (x ∷ r) (y ∷ r') f e =
    let a = ap (λ z. cond {A = ℕ} (pick z) 1 0) f.0 in
    omega (arith, a, picked_fits pick r r' f.1 (omega (arith, e)))

-- each entry is at most what ds tells for its level
abbrev pub AtMost : (ℕ → ℕ) → List Entry → Type 0
AtMost ds r = Each (λ e. e.1 ≤ ds e.0) r

-- each entry is below that
abbrev pub Under : (ℕ → ℕ) → List Entry → Type 0
Under ds r = Each (λ e. e.1 < ds e.0) r

-- each level is below n
abbrev pub LevelsUnder : ℕ → List Entry → Type 0
LevelsUnder n r = Each (λ e. e.0 < n) r

-- Of the lists of k numbers up to d that never fall, those that begin as the entries of level l do and go on
-- higher. Where fewer than k entries are of the level, d stands for those that are missing.
abbrev pub rank : ℕ → ℕ → ℕ → List Entry → ℕ
rank d l k [] = 0
rank d l k (e ∷ r) = cond (eqb e.0 l) (rising (d - e.1) k + rank d l (k - 1) r) (rank d l k r)

pub rank_below : (ds : ℕ → ℕ) (l m k : ℕ) (r : List Entry) → AtMost ds r → NeverFalls r → FromOn l m r → picked (is_at l) r ≤ k → m ≤ ds l
    → rank (ds l) l k r < rising (suc (ds l) - m) k
rank_below ds l m k [] up n f h le = some-at (ds l) m k le
rank_below ds l m k (x ∷ r) up n f h le = go (eqb x.0 l) refl k h (λ m' k' f' h' le'. rank_below ds l m' k' r up.1 n.1 f' h' le')
  where
    go : (b : Bool) → eqb x.0 l ≡ b → (k : ℕ) → cond b 1 0 + picked (is_at l) r ≤ k
        → ((m' k' : ℕ) → FromOn l m' r → picked (is_at l) r ≤ k' → m' ≤ ds l → rank (ds l) l k' r < rising (suc (ds l) - m') k')
        → cond b (rising (ds l - x.1) k + rank (ds l) l (k - 1) r) (rank (ds l) l k r) < rising (suc (ds l) - m) k
    go false e k h rec = rec m k f.1 (omega (arith, h)) le
    go true e zero h rec = absurd (omega (arith, h))
    go true e (suc k) h rec =
        let here : x.0 ≡ l = eqb-true x.0 l e in
        let low : m ≤ x.1 = f.0 (sym here) in
        let top : x.1 ≤ ds l = subst (λ z. x.1 ≤ ds z) here up.0 in
        let one : suc k - 1 ≡ k = omega arith in
        let ih = rec x.1 k (subst (λ z. FromOn z x.1 r) here n.0) (omega (arith, h)) top in
        let down : suc (ds l) - x.1 ≤ suc (ds l) - m = omega arith in
        let s = ap (λ z. rank (ds l) l z r) one in
        omega (arith, ih, s, pascal-at (ds l) x.1 k top, rising-le (suc (ds l) - x.1) (suc (ds l) - m) (suc k) down)

-- a lower head gives a greater rank
lower_head : (ds : ℕ → ℕ) (l m m' k : ℕ) (r r' : List Entry) → AtMost ds ((l, m') ∷ r') → NeverFalls ((l, m') ∷ r') → picked (is_at l) ((l, m') ∷ r') ≤ k
    → rank (ds l) l k ((l, m) ∷ r) ≡ rank (ds l) l k ((l, m') ∷ r') → m < m' → ⊥
lower_head ds l m m' k r r' up n h e lt =
    let same = eq-eqb l l refl in
    let a = ap (λ b. cond {A = ℕ} b (rising (ds l - m) k + rank (ds l) l (k - 1) r) (rank (ds l) l k r)) same in
    let top : m' ≤ ds l = up.0 in
    let b = rank_below ds l m' k ((l, m') ∷ r') up n (λ q. omega arith, n.0) h top in
    let down : suc (ds l) - m' ≤ ds l - m = omega arith in
    omega (arith, a, b, e, rising-le (suc (ds l) - m') (ds l - m) k down)

-- an entry that the other record lacks
one_more : (d l k : ℕ) (x : Entry) (r : List Entry) → x.1 < d → x.0 ≡ l → 0 < rank d l k (x ∷ r)
one_more d l k x r lt here =
    let a = ap (λ b. cond {A = ℕ} b (rising (d - x.1) k + rank d l (k - 1) r) (rank d l k r)) (eq-eqb x.0 l here) in
    let e : suc (d - 1) - x.1 ≡ d - x.1 = omega arith in
    let some = subst (λ z. 0 < rising z k) e (some-at (d - 1) x.1 k (omega arith)) in
    omega (arith, a, some)

-- counts for the rest
abbrev less : ℕ → (ℕ → ℕ) → ℕ → ℕ
less x ks l = ks l - cond (eqb x l) 1 0

rest_fits : (x : Entry) (r : List Entry) (ks : ℕ → ℕ) → ((l : ℕ) → picked (is_at l) (x ∷ r) ≤ ks l) → (l : ℕ) → picked (is_at l) r ≤ less x.0 ks l
rest_fits x r ks h l = let a = h l in omega (arith, a)

rest_rank : (d l k a : ℕ) (b : Bool) (r r' : List Entry) → cond b (a + rank d l (k - 1) r) (rank d l k r) ≡ cond b (a + rank d l (k - 1) r') (rank d l k r')
    → rank d l (k - cond b 1 0) r ≡ rank d l (k - cond b 1 0) r'
rest_rank d l k a true r r' e = omega (arith, e)
rest_rank d l k a false r r' e = let z : k - 0 ≡ k = omega arith in subst (λ z. rank d l z r ≡ rank d l z r') (sym z) e

pub same_ranks : (n : ℕ) (ds ks : ℕ → ℕ) (r r' : List Entry) → Fits r r' → (length r ≡ length r') ⊎ (Under ds r × Under ds r') → AtMost ds r → AtMost ds r'
    → NeverFalls r → NeverFalls r' → LevelsUnder n r → LevelsUnder n r' → ((l : ℕ) → picked (is_at l) r ≤ ks l) → ((l : ℕ) → picked (is_at l) r' ≤ ks l)
    → ((l : ℕ) → l < n → rank (ds l) l (ks l) r ≡ rank (ds l) l (ks l) r') → r ≡ r'
same_ranks n ds ks [] [] f ends up up' m m' in_ in' h h' s = refl
same_ranks n ds ks [] (x ∷ r') f (inl e) up up' m m' in_ in' h h' s = absurd (omega (arith, e))
same_ranks n ds ks [] (x ∷ r') f (inr u) up up' m m' in_ in' h h' s = absurd (omega (arith, s x.0 in'.0, one_more (ds x.0) x.0 (ks x.0) x r' u.1.0 refl))
same_ranks n ds ks (x ∷ r) [] f (inl e) up up' m m' in_ in' h h' s = absurd (omega (arith, e))
same_ranks n ds ks (x ∷ r) [] f (inr u) up up' m m' in_ in' h h' s = absurd (omega (arith, s x.0 in_.0, one_more (ds x.0) x.0 (ks x.0) x r u.0.0 refl))
same_ranks n ds ks ((l, c) ∷ r) ((l', c') ∷ r') f ends up up' m m' in_ in' h h' s =
    go l' f.0 up' m' h' s (cases_order c c')
    (λ t. same_ranks n ds (less l ks) r r' f.1 (tails ends) up.1 up'.1 m.1 m'.1 in_.1 in'.1 (rest_fits (l, c) r ks h)
    (subst (λ z. (q : ℕ) → picked (is_at q) r' ≤ less z ks q) (sym f.0) (rest_fits (l', c') r' ks h')) t)
  where
    tails : (length ((l, c) ∷ r) ≡ length ((l', c') ∷ r')) ⊎ (Under ds ((l, c) ∷ r) × Under ds ((l', c') ∷ r'))
        → (length r ≡ length r') ⊎ (Under ds r × Under ds r')
    tails (inl e) = inl (omega (arith, e))
    tails (inr u) = inr (u.0.1, u.1.1)

    go : (l' : ℕ) → l ≡ l' → AtMost ds ((l', c') ∷ r') → NeverFalls ((l', c') ∷ r') → ((q : ℕ) → picked (is_at q) ((l', c') ∷ r') ≤ ks q)
        → ((q : ℕ) → q < n → rank (ds q) q (ks q) ((l, c) ∷ r) ≡ rank (ds q) q (ks q) ((l', c') ∷ r')) → (c ≡ c') ⊎ ((c < c') ⊎ (c' < c))
        → (((q : ℕ) → q < n → rank (ds q) q (less l ks q) r ≡ rank (ds q) q (less l ks q) r') → r ≡ r') → (l, c) ∷ r ≡ (l', c') ∷ r'
    go l' le up' m' h' s (inl ce) rec =
        let x : Entry = (l, c) in
        let y : Entry = (l', c') in
        let heads : x ≡ y = cc in
        let rest : r ≡ r' = rec (λ q lt. rest_rank (ds q) q (ks q) (rising (ds q - c) (ks q)) (eqb l q) r r'
        (s q lt ∙ ap (λ (y : Entry). rank (ds q) q (ks q) (y ∷ r')) (sym heads))) in
        cc
    go l' le up' m' h' s (inr (inl lt)) rec =
        absurd (lower_head ds l c c' (ks l) r r' (subst (λ z. AtMost ds ((z, c') ∷ r')) (sym le) up') (subst (λ z. NeverFalls ((z, c') ∷ r')) (sym le) m')
        (subst (λ z. picked (is_at l) ((z, c') ∷ r') ≤ ks l) (sym le) (h' l))
        (subst (λ z. rank (ds l) l (ks l) ((l, c) ∷ r) ≡ rank (ds l) l (ks l) ((z, c') ∷ r')) (sym le) (s l in_.0)) lt)
    go l' le up' m' h' s (inr (inr lt)) rec =
        absurd (lower_head ds l c' c (ks l) r' r up m (h l)
        (sym (subst (λ z. rank (ds l) l (ks l) ((l, c) ∷ r) ≡ rank (ds l) l (ks l) ((z, c') ∷ r')) (sym le) (s l in_.0))) lt)

-- the ranks of the levels below n as one number
abbrev pub number : (ℕ → ℕ) → (ℕ → ℕ) → ℕ → List Entry → ℕ
number ds ks zero r = 0
number ds ks (suc l) r = rank (ds l) l (ks l) r + rising (suc (ds l)) (ks l) * number ds ks l r

from_zero : (l : ℕ) (r : List Entry) → FromOn l 0 r
from_zero l [] = tt
from_zero l (e ∷ r) = (λ q. omega arith, from_zero l r)

pub rank_under : (ds : ℕ → ℕ) (l k : ℕ) (r : List Entry) → AtMost ds r → NeverFalls r → picked (is_at l) r ≤ k → rank (ds l) l k r < rising (suc (ds l)) k
rank_under ds l k r up m h =
    let e : suc (ds l) - 0 ≡ suc (ds l) = omega arith in
    subst (λ z. rank (ds l) l k r < rising z k) e (rank_below ds l 0 k r up m (from_zero l r) h (omega arith))

pub number_below : (ds ks : ℕ → ℕ) (n : ℕ) (r : List Entry) → AtMost ds r → NeverFalls r → ((l : ℕ) → picked (is_at l) r ≤ ks l)
    → number ds ks n r < sharp (λ l. suc (ds l)) n ks
number_below ds ks zero r up m h = omega arith
number_below ds ks (suc l) r up m h =
    let b = rising (suc (ds l)) (ks l) in
    let c = number ds ks l r in
    let ih : c + 1 ≤ sharp (λ z. suc (ds z)) l ks = omega (arith, number_below ds ks l r up m h) in
    omega (arith, rank_under ds l (ks l) r up m (h l), mul-le-mul_left b ih)

pub number_same : (ds ks : ℕ → ℕ) (n : ℕ) (r r' : List Entry) → ((l : ℕ) → rank (ds l) l (ks l) r < rising (suc (ds l)) (ks l))
    → ((l : ℕ) → rank (ds l) l (ks l) r' < rising (suc (ds l)) (ks l)) → number ds ks n r ≡ number ds ks n r' → (l : ℕ) → l < n
    → rank (ds l) l (ks l) r ≡ rank (ds l) l (ks l) r'
number_same ds ks zero r r' h h' e l lt = absurd (omega arith)
number_same ds ks (suc n) r r' h h' e l lt =
    let p = digits_same (rising (suc (ds n)) (ks n)) (rank (ds n) n (ks n) r) (number ds ks n r) (rank (ds n) n (ks n) r') (number ds ks n r') (h n) (h' n) e in
    ⊎_elim
    (λ (q : l ≡ n). subst (λ z. rank (ds z) z (ks z) r ≡ rank (ds z) z (ks z) r') (sym q) p.0)
    (λ (ne : l ≡ n → ⊥). number_same ds ks n r r' h h' p.1 l (omega arith))
    (cases_eq l n)
