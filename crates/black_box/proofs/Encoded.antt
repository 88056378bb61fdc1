-- A list of slots is told by one number below (t + 1) ^ digits t: how many events each epoch releases.
use Rattle.std.proofs.Common.{◌≡◌, ℕ, zero, suc, ◌+◌, ◌-◌, ◌*◌, ◌^◌, ◌<◌, ◌≤◌, List, [], ◌∷◌, drop, map, refl, sym, ap, ◌∙◌, subst, ⊎_elim, arith}
use Rattle.std.specs.Prelude.{Bool, true, false, cond}
use Rattle.std.proofs.lemmas.Bool.{cases_lt, cases_Bool}
use Rattle.std.proofs.Math.Nat.{pow-zero, pow-succ', mul-le-mul_left, mul-le-mul_right, mul_assoc, mul_comm}
use Rattle.leak_bound.specs.Records.{Tests, distinct_count}
use Rattle.leak_bound.specs.Digits.{digits}
use Rattle.leak_bound.proofs.Digits.{digits_is}
use Rattle.leak_bound.proofs.Counting.{digits_same}
use Rattle.leak_bound.proofs.Few.{count_few}
use Rattle.black_box.specs.Schedule.{is_due}
use Rattle.black_box.specs.Computed.{Slot, slots_from, slots, released, releases}
use Rattle.black_box.specs.Bound.{box_bound}
use Rattle.black_box.proofs.UnderWay.{slot_then, no_slots, slot_due, slot_free}

-- the counts of the epochs, as digits in base b, that of the first epoch lowest
abbrev pub number : ℕ → List Slot → ℕ
number b [] = 0
number b (x ∷ xs) = cond x.releases (suc (number b xs)) (b * number b xs)

-- ---- it is small

base_le : (b e : ℕ) → 0 < b → b ≤ b ^ suc e
base_le b zero h =
    let one : b ^ 1 ≡ b * 1 = pow-succ' b 0 ∙ ap (λ z. b * z) (pow-zero b) in
    omega (arith, one)
base_le b (suc e) h =
    let ih : b ≤ b ^ suc e = base_le b e h in
    let one : 1 ≤ b ^ suc e = omega arith in
    omega (arith, mul-le-mul_left b one, pow-succ' b (suc e))

below_step : (t n s len : ℕ) (rs : List ℕ) (e j : ℕ) → 0 < len → len ≤ s → j ≤ t → j < s → t < len * 2 ^ suc e
    → (suc j ≤ t → suc j < s + len → suc j + number (t + 1) (slots_from t n (s + len) len (drop 1 rs)) < (t + 1) ^ suc e)
    → ((d : ℕ) → t < 2 * len * 2 ^ suc d → 0 + number (t + 1) (slots_from t n (s + 2 * len) (2 * len) rs) < (t + 1) ^ suc d)
    → j + number (t + 1) (slots_from t (suc n) s len rs) < (t + 1) ^ suc e
below_step t n s len rs e j apart early jt js far due free =
    ⊎_elim
    (λ (late : t < s).
    let none = ap (number (t + 1)) (no_slots t (suc n) s len rs late) in
    omega (arith, none, base_le (t + 1) e (omega arith)))
    (λ (here : s ≤ t). ⊎_elim (on_due here) (on_free here e far) (cases_Bool (is_due s rs)))
    (cases_lt t s)
  where
    on_due : s ≤ t → is_due s rs ≡ true → j + number (t + 1) (slots_from t (suc n) s len rs) < (t + 1) ^ suc e
    on_due here d =
        let now : number (t + 1) (slots_from t (suc n) s len rs) ≡ suc (number (t + 1) (slots_from t n (s + len) len (drop 1 rs))) =
        ap (number (t + 1)) (slot_due t n s len rs here d) in
        omega (arith, now, due (omega arith) (omega arith))

    on_free : s ≤ t → (e : ℕ) → t < len * 2 ^ suc e → is_due s rs ≡ false → j + number (t + 1) (slots_from t (suc n) s len rs) < (t + 1) ^ suc e
    on_free here zero far d =
        let now : number (t + 1) (slots_from t (suc n) s len rs) ≡ (t + 1) * number (t + 1) (slots_from t n (s + 2 * len) (2 * len) rs) =
        ap (number (t + 1)) (slot_free t n s len rs here d) in
        let two : len * 2 ^ 1 ≡ len * 2 = ap (λ z. len * z) refl in
        let none : number (t + 1) (slots_from t n (s + 2 * len) (2 * len) rs) ≡ 0 =
        ap (number (t + 1)) (no_slots t n (s + 2 * len) (2 * len) rs (omega (arith, two, far))) in
        let gone : (t + 1) * number (t + 1) (slots_from t n (s + 2 * len) (2 * len) rs) ≡ (t + 1) * 0 = ap (λ z. (t + 1) * z) none in
        omega (arith, now, gone, base_le (t + 1) 0 (omega arith))
    on_free here (suc e) far d =
        let now : number (t + 1) (slots_from t (suc n) s len rs) ≡ (t + 1) * number (t + 1) (slots_from t n (s + 2 * len) (2 * len) rs) =
        ap (number (t + 1)) (slot_free t n s len rs here d) in
        let twice : len * 2 ^ suc (suc e) ≡ 2 * len * 2 ^ suc e = ap (λ z. len * z) (pow-succ' 2 (suc e)) ∙ sym (mul_assoc len 2 (2 ^ suc e))
        ∙ ap (λ z. z * 2 ^ suc e) (mul_comm len 2) in
        let x = number (t + 1) (slots_from t n (s + 2 * len) (2 * len) rs) in
        let less : x + 1 ≤ (t + 1) ^ suc e = let f = free e (subst (λ z. t < z) twice far) in omega (arith, f) in
        omega (arith, now, mul-le-mul_left (t + 1) less, pow-succ' (t + 1) (suc e))

number_below : (t n s len : ℕ) (rs : List ℕ) (e j : ℕ) → 0 < len → len ≤ s → j ≤ t → j < s → t < len * 2 ^ suc e
    → j + number (t + 1) (slots_from t n s len rs) < (t + 1) ^ suc e
number_below t zero s len rs e j apart early jt js far = omega (arith, base_le (t + 1) e (omega arith))
number_below t (suc n) s len rs e j apart early jt js far =
    below_step t n s len rs e j apart early jt js far
    (λ p q. number_below t n (s + len) len (drop 1 rs) e (suc j) apart (omega arith) p q far)
    (λ d p. number_below t n (s + 2 * len) (2 * len) rs d 0 (omega arith) (omega arith) (omega arith) (omega arith) p)

-- ---- it tells the slots

-- the lowest digit counts slots from s to t
abbrev Leads : ℕ → ℕ → List Slot → Type 0
Leads t s xs = (c x : ℕ) × (number (t + 1) xs ≡ c + (t + 1) * x) × (c ≤ t + 1 - s)

leads : (t n s len : ℕ) (rs : List ℕ) → 0 < len → Leads t s (slots_from t n s len rs)
leads t zero s len rs apart = (0, 0, omega arith, omega arith)
leads t (suc n) s len rs apart =
    ⊎_elim
    (λ (late : t < s). subst (Leads t s) (sym (no_slots t (suc n) s len rs late)) (0, 0, omega arith, omega arith))
    (λ (here : s ≤ t).
    ⊎_elim
    (λ (d : is_due s rs ≡ true). subst (Leads t s) (sym (slot_due t n s len rs here d)) (one_more here (leads t n (s + len) len (drop 1 rs) apart)))
    (λ (d : is_due s rs ≡ false). subst (Leads t s) (sym (slot_free t n s len rs here d)) (
      0,
      number (t + 1) (slots_from t n (s + 2 * len) (2 * len) rs),
      omega arith,
      omega arith,
    ))
    (cases_Bool (is_due s rs)))
    (cases_lt t s)
  where
    one_more : s ≤ t → Leads t (s + len) (slots_from t n (s + len) len (drop 1 rs)) → Leads t s (slot_then s true (slots_from t n (s + len) len (drop 1 rs)))
    one_more here l = (suc l.0, l.1, let e = l.2 in omega (arith, e), let b = l.3 in omega (arith, b))

-- no slot that releases has the number of one that does not
clash : (t s len x y : ℕ) (xs : List Slot) → 0 < s → s ≤ t → 0 < len → Leads t (s + len) xs → x ≡ number (t + 1) xs → suc x ≡ (t + 1) * y → ⊥
clash t s len x y xs ps here apart l ex e =
    let lead = l.2 in
    let low = l.3 in
    let both : suc l.0 + (t + 1) * l.1 ≡ 0 + (t + 1) * y = omega (arith, lead, ex, e) in
    let d = digits_same (t + 1) (suc l.0) l.1 0 y (omega (arith, low)) (omega arith) both in
    let z = d.0 in absurd (omega (arith, z))

same_step : (t n s len : ℕ) (rs rs' : List ℕ) → 0 < len → 0 < s
    → (number (t + 1) (slots_from t n (s + len) len (drop 1 rs)) ≡ number (t + 1) (slots_from t n (s + len) len (drop 1 rs'))
    → slots_from t n (s + len) len (drop 1 rs) ≡ slots_from t n (s + len) len (drop 1 rs'))
    → (number (t + 1) (slots_from t n (s + 2 * len) (2 * len) rs) ≡ number (t + 1) (slots_from t n (s + 2 * len) (2 * len) rs')
    → slots_from t n (s + 2 * len) (2 * len) rs ≡ slots_from t n (s + 2 * len) (2 * len) rs')
    → number (t + 1) (slots_from t (suc n) s len rs) ≡ number (t + 1) (slots_from t (suc n) s len rs')
    → slots_from t (suc n) s len rs ≡ slots_from t (suc n) s len rs'
same_step t n s len rs rs' apart ps due free e =
    ⊎_elim
    (λ (late : t < s). no_slots t (suc n) s len rs late ∙ sym (no_slots t (suc n) s len rs' late))
    (λ (here : s ≤ t).
    ⊎_elim
    (λ (d : is_due s rs ≡ true). ⊎_elim (both_due here d) (λ (f : is_due s rs' ≡ false). absurd (one_due rs rs' here d f e)) (cases_Bool (is_due s rs')))
    (λ (d : is_due s rs ≡ false). ⊎_elim (λ (f : is_due s rs' ≡ true). absurd (one_due rs' rs here f d (sym e))) (none_due here d) (cases_Bool (is_due s rs')))
    (cases_Bool (is_due s rs)))
    (cases_lt t s)
  where
    due_number : (l : List ℕ) → s ≤ t → is_due s l ≡ true
        → number (t + 1) (slots_from t (suc n) s len l) ≡ suc (number (t + 1) (slots_from t n (s + len) len (drop 1 l)))
    due_number l here d = ap (number (t + 1)) (slot_due t n s len l here d)

    free_number : (l : List ℕ) → s ≤ t → is_due s l ≡ false
        → number (t + 1) (slots_from t (suc n) s len l) ≡ (t + 1) * number (t + 1) (slots_from t n (s + 2 * len) (2 * len) l)
    free_number l here d = ap (number (t + 1)) (slot_free t n s len l here d)

    one_due : (l l' : List ℕ) → s ≤ t → is_due s l ≡ true → is_due s l' ≡ false
        → number (t + 1) (slots_from t (suc n) s len l) ≡ number (t + 1) (slots_from t (suc n) s len l') → ⊥
    one_due l l' here d f same =
        clash t s len (number (t + 1) (slots_from t n (s + len) len (drop 1 l))) (number (t + 1) (slots_from t n (s + 2 * len) (2 * len) l'))
        (slots_from t n (s + len) len (drop 1 l))
        ps here apart (leads t n (s + len) len (drop 1 l) apart) refl
        (sym (due_number l here d) ∙ same ∙ free_number l' here f)

    both_due : s ≤ t → is_due s rs ≡ true → is_due s rs' ≡ true → slots_from t (suc n) s len rs ≡ slots_from t (suc n) s len rs'
    both_due here d d' =
        slot_due t n s len rs here d
        ∙ ap (slot_then s true) (due (let a = due_number rs here d in let b = due_number rs' here d' in omega (arith, a, b, e)))
        ∙ sym (slot_due t n s len rs' here d')

    none_due : s ≤ t → is_due s rs ≡ false → is_due s rs' ≡ false → slots_from t (suc n) s len rs ≡ slots_from t (suc n) s len rs'
    none_due here d d' =
        let a = free_number rs here d in
        let b = free_number rs' here d' in
        let x = number (t + 1) (slots_from t n (s + 2 * len) (2 * len) rs) in
        let y = number (t + 1) (slots_from t n (s + 2 * len) (2 * len) rs') in
        slot_free t n s len rs here d
        ∙ ap (slot_then s false) (free (digits_same (t + 1) 0 x 0 y (omega arith) (omega arith) (omega (arith, a, b, e))).1)
        ∙ sym (slot_free t n s len rs' here d')

same_slots : (t n s len : ℕ) (rs rs' : List ℕ) → 0 < len → 0 < s → number (t + 1) (slots_from t n s len rs) ≡ number (t + 1) (slots_from t n s len rs')
    → slots_from t n s len rs ≡ slots_from t n s len rs'
same_slots t zero s len rs rs' apart ps e = refl
same_slots t (suc n) s len rs rs' apart ps e =
    same_step t n s len rs rs' apart ps
    (same_slots t n (s + len) len (drop 1 rs) (drop 1 rs') apart (omega arith))
    (same_slots t n (s + 2 * len) (2 * len) rs rs' (omega arith) (omega arith)) e

-- ---- the bound

all_below : (q t : ℕ) → 0 < q → 0 < t → (rs : List ℕ) → number (t + 1) (slots q t rs) < box_bound t
all_below q t pq pt rs = go (digits_is t pt)
  where
    go : (d : ℕ) × (digits t ≡ suc d) × (t < 2 ^ suc d) × (2 ^ d ≤ t) → number (t + 1) (slots q t rs) < box_bound t
    go d =
        let one : 1 ≤ q = omega arith in
        let far : t < q * 2 ^ suc d.0 = let below = d.2 in omega (arith, below, mul-le-mul_right (2 ^ suc d.0) one) in
        let low = number_below t t q q rs d.0 0 pq (omega arith) (omega arith) pq far in
        subst (λ k. number (t + 1) (slots q t rs) < (t + 1) ^ k) (sym d.1) (omega (arith, low))

pub few_releases : (q t : ℕ) → 0 < q → 0 < t → (runs : List (List ℕ)) → (same : List ℕ → List ℕ → Bool) → Tests same
    → distinct_count same (map (releases q t) runs) ≤ box_bound t
few_releases q t pq pt runs same tests =
    count_few (releases q t) (λ rs. number (t + 1) (slots q t rs)) (box_bound t) (all_below q t pq pt) same tests
    (λ rs rs' e. ap released (same_slots t t q q rs rs' pq pq e)) runs
