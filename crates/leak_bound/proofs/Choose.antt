-- How the number of lists that never fall grows.
use Rattle.std.proofs.Common.{◌≡◌, ℕ, zero, suc, ◌+◌, ◌-◌, ◌*◌, ◌<◌, ◌≤◌, ◌^◌, refl, ap, ◌∙◌, subst, arith}
use Rattle.std.proofs.Math.Nat.{pow-zero, pow-succ', mul-le-mul_left}
use Rattle.leak_bound.specs.Rising.{choose, rising}

choose-none : (n : ℕ) → choose n 0 ≡ 1
choose-none n = refl

pub rising-none : (b : ℕ) → rising b 0 ≡ 1
rising-none b = choose-none (0 + b - 1)

-- the lists whose first is above the least, and those whose first is the least
pub pascal : (c k : ℕ) → rising (suc c) (suc k) ≡ rising c (suc k) + rising (suc c) k
pascal c k =
    let whole : suc k + suc c - 1 ≡ suc (k + c) = omega arith in
    let above : suc k + c - 1 ≡ k + c = omega arith in
    let least : k + suc c - 1 ≡ k + c = omega arith in
    let w : rising (suc c) (suc k) ≡ choose (suc (k + c)) (suc k) = ap (λ z. choose z (suc k)) whole in
    let a : rising c (suc k) ≡ choose (k + c) (suc k) = ap (λ z. choose z (suc k)) above in
    let l : rising (suc c) k ≡ choose (k + c) k = ap (λ z. choose z k) least in
    let p : choose (suc (k + c)) (suc k) ≡ choose (k + c) k + choose (k + c) (suc k) = refl in
    omega (arith, w, a, l, p)

-- there is such a list
pub rising-some : (c k : ℕ) → 0 < rising (suc c) k
rising-some c zero = omega (arith, rising-none (suc c))
rising-some c (suc k) = omega (arith, pascal c k, rising-some c k)

rising-up : (c k : ℕ) → rising c k ≤ rising (suc c) k
rising-up c zero = omega (arith, rising-none c, rising-none (suc c))
rising-up c (suc k) = omega (arith, pascal c k)

rising-add : (a n k : ℕ) → rising a k ≤ rising (n + a) k
rising-add a zero k = let e : a ≡ 0 + a = omega arith in subst (λ z. rising a k ≤ rising z k) e (omega arith)
rising-add a (suc n) k =
    let e : suc (n + a) ≡ suc n + a = omega arith in
    subst (λ z. rising a k ≤ rising z k) e (omega (arith, rising-add a n k, rising-up (n + a) k))

pub rising-le : (a b k : ℕ) → a ≤ b → rising a k ≤ rising b k
rising-le a b k h = let e : (b - a) + a ≡ b = omega arith in subst (λ z. rising a k ≤ rising z k) e (rising-add a (b - a) k)

pub pascal-at : (d x k : ℕ) → x ≤ d → rising (suc d - x) (suc k) ≡ rising (d - x) (suc k) + rising (suc d - x) k
pascal-at d x k h = let e : suc (d - x) ≡ suc d - x = omega arith in subst (λ z. rising z (suc k) ≡ rising (d - x) (suc k) + rising z k) e (pascal (d - x) k)

pub some-at : (d x k : ℕ) → x ≤ d → 0 < rising (suc d - x) k
some-at d x k h = let e : suc (d - x) ≡ suc d - x = omega arith in subst (λ z. 0 < rising z k) e (rising-some (d - x) k)

choose-over : (n k : ℕ) → n < k → choose n k ≡ 0
choose-over n zero h = absurd (omega arith)
choose-over zero (suc k) h = refl
choose-over (suc n) (suc k) h = omega (arith, choose-over n k (omega arith), choose-over n (suc k) (omega arith))

pub rising-zero : (k : ℕ) → rising 0 (suc k) ≡ 0
rising-zero k = let e : suc k + 0 - 1 ≡ k = omega arith in ap (λ z. choose z (suc k)) e ∙ choose-over k (suc k) (omega arith)

pub rising-one : (k : ℕ) → rising 1 k ≡ 1
rising-one zero = rising-none 1
rising-one (suc k) = omega (arith, pascal 0 k, rising-zero k, rising-one k)

-- of one number there are as many as numbers
pub one-rising : (c : ℕ) → rising c 1 ≡ c
one-rising zero = rising-zero 0
one-rising (suc c) = omega (arith, pascal c 0, one-rising c, rising-none (suc c))

-- one value more, and one number more
rising-times : (c k : ℕ) → rising (suc (suc c)) k ≤ (k + 1) * rising (suc c) k
rising-times c zero = omega (arith, rising-none (suc (suc c)), rising-none (suc c))
rising-times c (suc k) =
    let a = rising (suc c) (suc k) in
    let b = rising (suc c) k in
    let less : b ≤ a = omega (arith, pascal c k) in
    omega (arith, pascal (suc c) k, rising-times c k, mul-le-mul_left (k + 1) less)

pub rising-power : (c k : ℕ) → rising (suc c) k ≤ (k + 1) ^ c
rising-power zero k = omega (arith, rising-one k, pow-zero (k + 1))
rising-power (suc c) k = omega (arith, rising-times c k, mul-le-mul_left (k + 1) (rising-power c k), pow-succ' (k + 1) c)
