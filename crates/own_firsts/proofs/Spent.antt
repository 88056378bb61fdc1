-- The cycles of a record's entries, each with the first prediction of its place.
use Rattle.std.proofs.Common.{◌≡◌, ℕ, ◌+◌, ◌*◌, ◌^◌, ◌≤◌, List, [], ◌∷◌, ◌++◌, append-nil, Bool, true, false, refl, ap, ◌∙◌, arith}
use Rattle.std.specs.Prelude.{cond, eqb, max}
use Rattle.std.proofs.Math.Nat.{mul-le-mul_left, le-max_right}
use Rattle.leak_bound.specs.Records.{Entry}
use Rattle.leak_bound.specs.Digits.{digits}
use Rattle.leak_bound.proofs.Digits.{power_digits}
use Rattle.leak_bound.proofs.Counting.{picked, is_at, Under}

-- after an entry of level x one more of that level has ended
abbrev pub one_after : (ℕ → ℕ) → ℕ → ℕ → ℕ
one_after base x l = base l + cond (eqb x l) 1 0

-- after some entries
abbrev pub after_these : (ℕ → ℕ) → List Entry → ℕ → ℕ
after_these base r l = base l + picked (is_at l) r

-- the cycles of all entries, where `base` tells of each level how many entries come before these
abbrev pub spent_own : (ℕ → ℕ → ℕ) → (ℕ → ℕ) → List Entry → ℕ
spent_own firsts base [] = 0
spent_own firsts base (e ∷ r) = 2 ^ e.1 * max (firsts e.0 (base e.0)) 1 + spent_own firsts (one_after base e.0) r

pub spent_same : (firsts : ℕ → ℕ → ℕ) (x y : ℕ → ℕ) → ((l : ℕ) → x l ≡ y l) → (r : List Entry) → spent_own firsts x r ≡ spent_own firsts y r
spent_same firsts x y h [] = refl
spent_same firsts x y h (e ∷ r) =
    ap (λ z. 2 ^ e.1 * max (firsts e.0 z) 1 + spent_own firsts (one_after x e.0) r) (h e.0)
    ∙ ap (λ z. 2 ^ e.1 * max (firsts e.0 (y e.0)) 1 + z)
    (spent_same firsts (one_after x e.0) (one_after y e.0) (λ l. ap (λ z. z + cond (eqb e.0 l) 1 0) (h l)) r)

pub spent_append : (firsts : ℕ → ℕ → ℕ) (x : ℕ → ℕ) (a b : List Entry) → spent_own firsts x (a ++ b)
    ≡ spent_own firsts x a + spent_own firsts (after_these x a) b
spent_append firsts x [] b = let e = spent_same firsts x (after_these x []) (λ l. omega arith) b in omega (arith, e)
spent_append firsts x (e ∷ a) b =
    let h = spent_append firsts (one_after x e.0) a b in
    let s = spent_same firsts (after_these (one_after x e.0) a) (after_these x (e ∷ a)) (λ l. omega arith) b in
    omega (arith, h, s)

-- what a guard may leave out
pub guarded : (firsts : ℕ → ℕ → ℕ) (x : ℕ → ℕ) (b : Bool) (c c' : ℕ) (r : List Entry) → (b ≡ true → c + spent_own firsts x r ≤ c') → c ≤ c'
    → c + spent_own firsts x (cond b r []) ≤ c'
guarded firsts x true c c' r h le = h refl
guarded firsts x false c c' r h le = omega (arith, le)

-- the part of a run before what is left, and the rest
pub chained : (firsts : ℕ → ℕ → ℕ) (x : ℕ → ℕ) (c c1 c2 c' : ℕ) (a b : List Entry) → c + spent_own firsts x a ≤ c1 → c1 ≤ c2
    → c2 + spent_own firsts (after_these x a) b ≤ c' → c + spent_own firsts x (a ++ b) ≤ c'
chained firsts x c c1 c2 c' a b h le k = omega (arith, h, le, k, spent_append firsts x a b)

-- a first command's entries, where nothing comes after it
pub picked_alone : (pick : ℕ → Bool) (r : List Entry) → picked pick (r ++ []) ≡ picked pick r
picked_alone pick r = ap (picked pick) (append-nil r)

-- an entry whose cycles fit into T has a miss count with fewer binary digits than T
pub under_digits : (firsts : ℕ → ℕ → ℕ) (x : ℕ → ℕ) (t : ℕ) (r : List Entry) → spent_own firsts x r ≤ t → Under (λ l. digits t) r
under_digits firsts x t [] h = tt
under_digits firsts x t (e ∷ r) h =
    let one = mul-le-mul_left (2 ^ e.1) (le-max_right (firsts e.0 (x e.0)) 1) in
    (power_digits e.1 t (omega (arith, one, h)), under_digits firsts (one_after x e.0) t r (omega (arith, h)))
