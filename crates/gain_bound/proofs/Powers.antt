-- Weighted means, by powers of whole numbers: S ^ S is at most D ^ S times the product of n ^ n over D numbers n of sum S.
use Rattle.std.proofs.Common.{◌≡◌, ◌≤◌, ◌<◌, ◌+◌, ◌*◌, ◌^◌, ◌-◌, ℕ, zero, suc, sym, ap, subst, ◌∙◌, arith, List, [], ◌∷◌, length, inl, inr}
use Rattle.std.proofs.Common.{pow-suc, mul-le-mul_right, mul-le-mul_left}
use Rattle.std.proofs.Math.Nat.{pow-zero, pow-le-pow_left}
use Rattle.std.proofs.lemmas.Nat.{pow-add, mul-le, mul-pow}
use Rattle.std.proofs.lemmas.Bool.{cases_lt}
use Rattle.fixed_log.specs.Entropy.{starts, own_powers}

-- ---- products

-- twice a product is at most the sum of the squares
above : (p d : ℕ) → 2 * (p * (p + d)) ≤ p * p + (p + d) * (p + d)
above p d =
    let one : 2 * (p * (p + d)) ≡ 2 * (p * p) + 2 * (p * d) = grind arith in
    let two : p * p + (p + d) * (p + d) ≡ 2 * (p * p) + 2 * (p * d) + d * d = grind arith in
    omega (arith, one, two)

squares : (p q : ℕ) → 2 * (p * q) ≤ p * p + q * q
squares p q =
    elim (cases_lt p q) [
      | inl lt ↦
          let e : p + (q - p) ≡ q = omega (arith, lt) in
          subst (λ z. 2 * (p * z) ≤ p * p + z * z) e (above p (q - p))
      | inr ge ↦
          let e : q + (p - q) ≡ p = omega (arith, ge) in
          let turned : q * p ≡ p * q = grind arith in
          let h = subst (λ z. 2 * (q * z) ≤ q * q + z * z) e (above q (p - q)) in
          omega (arith, h, turned)
    ]

some_power : (b n : ℕ) → 0 < b → 0 < b ^ n
some_power b zero h = let e = pow-zero b in omega (arith, e)
some_power b (suc n) h =
    let e = pow-suc b n in
    let m = mul-le 1 1 (b ^ n) b (some_power b n h) h in
    omega (arith, e, m)

some_own : (n : ℕ) → 0 < n ^ n
some_own zero = let e = pow-zero 0 in omega (arith, e)
some_own (suc n) = some_power (suc n) (suc n) (omega arith)

cancel : (c a b : ℕ) → 0 < c → a * c ≤ b * c → a ≤ b
cancel c a b some h =
    elim (cases_lt b a) [
      | inl lt ↦
          let more : suc b * c ≤ a * c = mul-le-mul_right c lt in
          let e : suc b * c ≡ b * c + c = grind arith in
          absurd (omega (arith, h, more, e, some))
      | inr ge ↦ ge
    ]

-- ---- (n + 1) p q ^ n is at most p ^ (n + 1) + n q ^ (n + 1)

step : (n p q a x : ℕ) → suc n * (p * a) ≤ x + n * (a * q) → suc (suc n) * (p * (a * q)) ≤ x * p + suc n * (a * q * q)
step n p q a x h =
    let one : suc n * (p * a) * p ≤ (x + n * (a * q)) * p = mul-le-mul_right p h in
    let two : suc n * a * (2 * (p * q)) ≤ suc n * a * (p * p + q * q) = mul-le-mul_left (suc n * a) (squares p q) in
    let one_left : suc n * (p * a) * p ≡ n * (a * p * p) + a * p * p = grind arith in
    let one_right : (x + n * (a * q)) * p ≡ x * p + n * (a * p * q) = grind arith in
    let two_left : suc n * a * (2 * (p * q)) ≡ 2 * (n * (a * p * q)) + 2 * (a * p * q) = grind arith in
    let two_right : suc n * a * (p * p + q * q) ≡ n * (a * p * p) + a * p * p + n * (a * q * q) + a * q * q = grind arith in
    let left : suc (suc n) * (p * (a * q)) ≡ n * (a * p * q) + 2 * (a * p * q) = grind arith in
    let right : x * p + suc n * (a * q * q) ≡ x * p + n * (a * q * q) + a * q * q = grind arith in
    omega (arith, one, two, one_left, one_right, two_left, two_right, left, right)

tangent : (n p q : ℕ) → suc n * (p * q ^ n) ≤ p ^ suc n + n * q ^ suc n
tangent zero p q =
    let one = pow-suc p 0 in
    let two = pow-zero p in
    let three = pow-zero q in
    let left : 1 * (p * q ^ 0) ≡ p = grind (arith, three) in
    let right : p ^ 1 ≡ p = grind (arith, one, two) in
    omega (arith, left, right)
tangent (suc n) p q =
    let up : q ^ suc n ≡ q ^ n * q = pow-suc q n in
    let h = subst (λ z. suc n * (p * q ^ n) ≤ p ^ suc n + n * z) up (tangent n p q) in
    let s = step n p q (q ^ n) (p ^ suc n) h in
    let more : q ^ suc (suc n) ≡ q ^ n * q * q = pow-suc q (suc n) ∙ ap (λ z. z * q) up in
    subst (λ z. suc (suc n) * (p * z) ≤ p ^ suc (suc n) + suc n * q ^ suc (suc n)) (sym up)
    (subst (λ z. suc (suc n) * (p * (q ^ n * q)) ≤ z + suc n * q ^ suc (suc n)) (sym (pow-suc p (suc n)))
    (subst (λ z. suc (suc n) * (p * (q ^ n * q)) ≤ p ^ suc n * p + suc n * z) (sym more) s))

-- ---- one number more

-- of n + 1 numbers, of which n have the sum s, and the product of these is at most as if they were equal
grown : (n s c m t u x : ℕ) → 0 < n → suc n * (n * (s + c) * (m * t)) ≤ x * n * u + n * (m * t * (suc n * s)) → m * suc n * (t * c) ≤ x * u
grown n s c m t u x some h =
    let left : suc n * (n * (s + c) * (m * t)) ≡ n * (m * t * (suc n * s)) + m * suc n * (t * c) * n = grind arith in
    let right : x * n * u ≡ x * u * n = grind arith in
    cancel n (m * suc n * (t * c)) (x * u) some (omega (arith, h, left, right))

more : (n s c : ℕ) → suc n ^ suc n * (s ^ n * c) ≤ n ^ n * (s + c) ^ suc n
more zero s c =
    let a : 1 ^ 1 ≡ 1 = pow-suc 1 0 ∙ (ap (λ z. z * 1) (pow-zero 1) ∙ omega arith) in
    let b : (s + c) ^ 1 ≡ s + c = pow-suc (s + c) 0 ∙ (ap (λ z. z * (s + c)) (pow-zero (s + c)) ∙ omega arith) in
    let d = pow-zero s in
    let e = pow-zero 0 in
    let left : 1 ^ 1 * (s ^ 0 * c) ≡ c = grind (arith, a, d) in
    let right : 0 ^ 0 * (s + c) ^ 1 ≡ s + c = grind (arith, b, e) in
    omega (arith, left, right)
more (suc k) s c =
    let n = suc k in
    let p = n * (s + c) in
    let q = suc n * s in
    let m = suc n ^ n in
    let t = s ^ n in
    let u = (s + c) ^ suc n in
    let low : q ^ n ≡ m * t = mul-pow (suc n) s n in
    let high : q ^ suc n ≡ m * t * (suc n * s) = pow-suc q n ∙ ap (λ z. z * q) low in
    let whole : p ^ suc n ≡ n ^ n * n * u = mul-pow n (s + c) (suc n) ∙ ap (λ z. z * u) (pow-suc n n) in
    let h = subst (λ z. suc n * (p * q ^ n) ≤ p ^ suc n + n * z) high (tangent n p q) in
    let h' = subst (λ z. suc n * (p * q ^ n) ≤ z + n * (m * t * (suc n * s))) whole h in
    let h'' = subst (λ z. suc n * (p * z) ≤ n ^ n * n * u + n * (m * t * (suc n * s))) low h' in
    subst (λ z. z * (t * c) ≤ n ^ n * u) (sym (pow-suc (suc n) n)) (grown n s c m t u (n ^ n) (omega arith) h'')

-- ---- x numbers u and y numbers v

mean : (x u v y : ℕ) → (x + y) ^ (x + y) * (u ^ x * v ^ y) ≤ (x * u + y * v) ^ (x + y)
mean x u v zero =
    let a : x + 0 ≡ x = omega arith in
    let b : x * u + 0 * v ≡ x * u = omega arith in
    let d = pow-zero v in
    let e : x ^ x * (u ^ x * v ^ 0) ≡ (x * u) ^ x = ap (λ z. x ^ x * (u ^ x * z)) d ∙ (ap (λ z. x ^ x * z) (omega arith) ∙ sym (mul-pow x u x)) in
    subst (λ z. z ^ z * (u ^ x * v ^ 0) ≤ (x * u + 0 * v) ^ z) (sym a)
    (subst (λ z. x ^ x * (u ^ x * v ^ 0) ≤ z ^ x) (sym b) (omega (arith, e)))
mean x u v (suc y) =
    let n = x + y in
    let s = x * u + y * v in
    let a : x + suc y ≡ suc n = omega arith in
    let b : x * u + suc y * v ≡ s + v = grind arith in
    let w = u ^ x * v ^ y in
    let d : u ^ x * v ^ suc y ≡ w * v = ap (λ z. u ^ x * z) (pow-suc v y) ∙ grind arith in
    let one : suc n ^ suc n * v * (n ^ n * w) ≤ suc n ^ suc n * v * s ^ n = mul-le-mul_left (suc n ^ suc n * v) (mean x u v y) in
    let two : suc n ^ suc n * (s ^ n * v) ≤ n ^ n * (s + v) ^ suc n = more n s v in
    let left : suc n ^ suc n * v * (n ^ n * w) ≡ suc n ^ suc n * (w * v) * n ^ n = grind arith in
    let middle : suc n ^ suc n * v * s ^ n ≡ suc n ^ suc n * (s ^ n * v) = grind arith in
    let right : n ^ n * (s + v) ^ suc n ≡ (s + v) ^ suc n * n ^ n = grind arith in
    let all : suc n ^ suc n * (w * v) ≤ (s + v) ^ suc n =
    cancel (n ^ n) (suc n ^ suc n * (w * v)) ((s + v) ^ suc n) (some_own n) (omega (arith, one, two, left, middle, right)) in
    subst (λ z. z ^ z * (u ^ x * v ^ suc y) ≤ (x * u + suc y * v) ^ z) (sym a)
    (subst (λ z. suc n ^ suc n * (u ^ x * v ^ suc y) ≤ z ^ suc n) (sym b)
    (subst (λ z. suc n ^ suc n * z ≤ (s + v) ^ suc n) (sym d) all))

-- ---- two classes, of which the second stands for b

two_some : (x y b : ℕ) → 0 < x → 0 < y → (x + y) ^ (x + y) * b ^ y ≤ suc b ^ (x + y) * (x ^ x * y ^ y)
two_some x y b some_x some_y =
    let n = x + y in
    let h = mean x y (b * x) y in
    let sum : x * y + y * (b * x) ≡ suc b * (x * y) = grind arith in
    let whole : (x * y + y * (b * x)) ^ n ≡ suc b ^ n * (x ^ n * y ^ n) =
    ap (λ z. z ^ n) sum ∙ (mul-pow (suc b) (x * y) n ∙ ap (λ z. suc b ^ n * z) (mul-pow x y n)) in
    let c = x ^ y * y ^ x in
    let parts : x ^ n * y ^ n ≡ x ^ x * y ^ y * c = ap (λ z. z * y ^ n) (pow-add x x y) ∙ (ap (λ z. x ^ x * x ^ y * z) (pow-add y x y) ∙ grind arith) in
    let left : n ^ n * (y ^ x * (b * x) ^ y) ≡ n ^ n * b ^ y * c = ap (λ z. n ^ n * (y ^ x * z)) (mul-pow b x y) ∙ grind arith in
    let right : suc b ^ n * (x ^ n * y ^ n) ≡ suc b ^ n * (x ^ x * y ^ y) * c = ap (λ z. suc b ^ n * z) parts ∙ grind arith in
    let some_c : 0 < c = let m = mul-le 1 1 (x ^ y) (y ^ x) (some_power x y some_x) (some_power y x some_y) in omega (arith, m) in
    cancel c (n ^ n * b ^ y) (suc b ^ n * (x ^ x * y ^ y)) some_c (omega (arith, h, whole, left, right))

two_classes : (x y b : ℕ) → (x + y) ^ (x + y) * b ^ y ≤ suc b ^ (x + y) * (x ^ x * y ^ y)
two_classes zero y b =
    let a : 0 + y ≡ y = omega arith in
    let z = pow-zero 0 in
    let up : b ^ y ≤ suc b ^ y = pow-le-pow_left (omega arith) y in
    let h : y ^ y * b ^ y ≤ y ^ y * suc b ^ y = mul-le-mul_left (y ^ y) up in
    let right : suc b ^ y * (0 ^ 0 * y ^ y) ≡ y ^ y * suc b ^ y = grind (arith, z) in
    subst (λ s. s ^ s * b ^ y ≤ suc b ^ s * (0 ^ 0 * y ^ y)) (sym a) (omega (arith, h, right))
two_classes (suc x) zero b =
    let a : suc x + 0 ≡ suc x = omega arith in
    let z = pow-zero b in
    let none = pow-zero 0 in
    let up : 1 ≤ suc b ^ suc x = some_power (suc b) (suc x) (omega arith) in
    let h : 1 * suc x ^ suc x ≤ suc b ^ suc x * suc x ^ suc x = mul-le-mul_right (suc x ^ suc x) up in
    let left : suc x ^ suc x * b ^ 0 ≡ 1 * suc x ^ suc x = grind (arith, z) in
    let right : suc b ^ suc x * (suc x ^ suc x * 0 ^ 0) ≡ suc b ^ suc x * suc x ^ suc x = grind (arith, none) in
    subst (λ s. s ^ s * b ^ 0 ≤ suc b ^ s * (suc x ^ suc x * 0 ^ 0)) (sym a) (omega (arith, h, left, right))
two_classes (suc x) (suc y) b = two_some (suc x) (suc y) b (omega arith) (omega arith)

-- ---- any number of classes

pub classes_few : (ns : List ℕ) → starts ns ^ starts ns ≤ length ns ^ starts ns * own_powers ns
classes_few [] = let e = pow-zero 0 in omega (arith, e)
classes_few (n ∷ []) =
    let a : n + 0 ≡ n = omega arith in
    let one : 1 ≤ 1 ^ n = some_power 1 n (omega arith) in
    let h : 1 * n ^ n ≤ 1 ^ n * n ^ n = mul-le-mul_right (n ^ n) one in
    let right : 1 ^ n * (n ^ n * 1) ≡ 1 ^ n * n ^ n = grind arith in
    subst (λ s. s ^ s ≤ 1 ^ s * (n ^ n * 1)) (sym a) (omega (arith, h, right))
classes_few (n ∷ m ∷ ns) =
    let rest = m ∷ ns in
    let d = length rest in
    let s = starts rest in
    let t = n + s in
    let whole = suc d ^ t * n ^ n in
    let h : t ^ t * d ^ s ≤ suc d ^ t * (n ^ n * s ^ s) = two_classes n s d in
    let up : whole * s ^ s ≤ whole * (d ^ s * own_powers rest) = mul-le-mul_left whole (classes_few (m ∷ ns)) in
    let middle : suc d ^ t * (n ^ n * s ^ s) ≡ whole * s ^ s = grind arith in
    let right : whole * (d ^ s * own_powers rest) ≡ suc d ^ t * (n ^ n * own_powers rest) * d ^ s = grind arith in
    cancel (d ^ s) (t ^ t) (suc d ^ t * (n ^ n * own_powers rest)) (some_power d s (omega arith)) (omega (arith, h, up, middle, right))
