-- The releases of the schedule are as the facts on the whole list say.
use Rattle.std.proofs.Common.{◌≡◌, ℕ, zero, suc, ◌+◌, ◌*◌, ◌<◌, ◌≤◌, List, [], ◌∷◌, ◌++◌, length, drop, append_assoc, refl, sym, ap, ◌∙◌, subst, ⊎_elim}
use Rattle.std.proofs.Common.{arith, length-append}
use Rattle.std.specs.Prelude.{true, false, cond, ◌==◌, nat_lt, count_by}
use Rattle.std.proofs.lemmas.Bool.{cases_Bool, cases_lt, cond-true, cond-false, cond_both, or_from, or_left, or_right, eq-eqb, ne_eqb, lt-ltb, le-ltb, leb-true}
use Rattle.std.proofs.lemmas.List.{drop-drop}
use Rattle.std.proofs.lemmas.List.Folds.{list_any-append}
use Rattle.std.proofs.lemmas.List.Sums.{sum_by-append, sum_by-cons}
use Rattle.leak_bound.specs.Records.{Each}
use Rattle.leak_bound.proofs.Few.{Each-map, Each-both, Each-append}
use Rattle.black_box.specs.Schedule.{is_due, Place, has, slot_after, nth_slot, Rises, IsSchedule, IsInOrder}
use Rattle.black_box.specs.Computed.{slots_from, released, releases}
use Rattle.black_box.proofs.UnderWay.{no_slots, slot_due, slot_free}

-- ---- what is released from a slot on

abbrev pub IsFrom : ℕ → ℕ → ℕ → Type 0
IsFrom s t r = (s ≤ r) × (r ≤ t)

from_later : (t s s' : ℕ) → s ≤ s' → (xs : List ℕ) → Each (IsFrom s' t) xs → Each (IsFrom s t) xs
from_later t s s' h xs e = Each-map (IsFrom s' t) (IsFrom s t) (λ r f. (let a = f.0 in omega arith, f.1)) xs e

pub all_from : (t n s len : ℕ) (rs : List ℕ) → Each (IsFrom s t) (released (slots_from t n s len rs))
all_from t zero s len rs = tt
all_from t (suc n) s len rs =
    go (all_from t n (s + len) len (drop 1 rs)) (all_from t n (s + 2 * len) (2 * len) rs)
  where
    go : Each (IsFrom (s + len) t) (released (slots_from t n (s + len) len (drop 1 rs)))
        → Each (IsFrom (s + 2 * len) t) (released (slots_from t n (s + 2 * len) (2 * len) rs)) → Each (IsFrom s t) (released (slots_from t (suc n) s len rs))
    go a b =
        ⊎_elim
        (λ (late : t < s). subst (λ z. Each (IsFrom s t) (released z)) (sym (no_slots t (suc n) s len rs late)) tt)
        (λ (here : s ≤ t).
        ⊎_elim
        (λ (d : is_due s rs ≡ true). subst (λ z. Each (IsFrom s t) (released z)) (sym (slot_due t n s len rs here d)) (
          (omega arith, here),
          from_later t s (s + len) (omega arith) (released (slots_from t n (s + len) len (drop 1 rs))) a,
        ))
        (λ (d : is_due s rs ≡ false). subst (λ z. Each (IsFrom s t) (released z)) (sym (slot_free t n s len rs here d))
        (from_later t s (s + 2 * len) (omega arith) (released (slots_from t n (s + 2 * len) (2 * len) rs)) b))
        (cases_Bool (is_due s rs)))
        (cases_lt t s)

all_rise : (t n s len : ℕ) (rs : List ℕ) → 0 < len → Rises (released (slots_from t n s len rs))
all_rise t zero s len rs apart = tt
all_rise t (suc n) s len rs apart =
    go (all_rise t n (s + len) len (drop 1 rs) apart) (all_rise t n (s + 2 * len) (2 * len) rs (omega arith))
  where
    go : Rises (released (slots_from t n (s + len) len (drop 1 rs))) → Rises (released (slots_from t n (s + 2 * len) (2 * len) rs))
        → Rises (released (slots_from t (suc n) s len rs))
    go a b =
        ⊎_elim
        (λ (late : t < s). subst (λ z. Rises (released z)) (sym (no_slots t (suc n) s len rs late)) tt)
        (λ (here : s ≤ t).
        ⊎_elim
        (λ (d : is_due s rs ≡ true). subst (λ z. Rises (released z)) (sym (slot_due t n s len rs here d)) (
          Each-map (IsFrom (s + len) t) (λ y. s < y)
              (λ y f. let l = f.0 in omega arith) (released (slots_from t n (s + len) len (drop 1 rs))) (all_from t n (s + len) len (drop 1 rs)),
          a,
        ))
        (λ (d : is_due s rs ≡ false). subst (λ z. Rises (released z)) (sym (slot_free t n s len rs here d)) b)
        (cases_Bool (is_due s rs)))
        (cases_lt t s)

due_first : (s : ℕ) (rs xs : List ℕ) → is_due s rs ≡ true → IsInOrder (drop 1 rs) xs → IsInOrder rs (s ∷ xs)
due_first s [] xs d h = cc
due_first s (r ∷ rs) xs d h = (leb-true r s d, h)

pub in_order : (t n s len : ℕ) (rs : List ℕ) → IsInOrder rs (released (slots_from t n s len rs))
in_order t zero s len [] = tt
in_order t zero s len (r ∷ rs) = tt
in_order t (suc n) s len rs = go (in_order t n (s + len) len (drop 1 rs)) (in_order t n (s + 2 * len) (2 * len) rs)
  where
    none : (rs : List ℕ) → IsInOrder rs []
    none [] = tt
    none (r ∷ rs) = tt

    go : IsInOrder (drop 1 rs) (released (slots_from t n (s + len) len (drop 1 rs))) → IsInOrder rs (released (slots_from t n (s + 2 * len) (2 * len) rs))
        → IsInOrder rs (released (slots_from t (suc n) s len rs))
    go a b =
        ⊎_elim
        (λ (late : t < s). subst (λ z. IsInOrder rs (released z)) (sym (no_slots t (suc n) s len rs late)) (none rs))
        (λ (here : s ≤ t).
        ⊎_elim
        (λ (d : is_due s rs ≡ true). subst (λ z. IsInOrder rs (released z)) (sym (slot_due t n s len rs here d))
        (due_first s rs (released (slots_from t n (s + len) len (drop 1 rs))) d a))
        (λ (d : is_due s rs ≡ false). subst (λ z. IsInOrder rs (released z)) (sym (slot_free t n s len rs here d)) b)
        (cases_Bool (is_due s rs)))
        (cases_lt t s)

-- ---- releases before a slot, and after it

pub none_below : (s : ℕ) (xs : List ℕ) → Each (λ r. r < s) xs → has xs s ≡ false
none_below s [] h = refl
none_below s (x ∷ xs) h = let l = h.0 in or_from (x == s) (has xs s) (ne_eqb x s (λ e. absurd (omega arith))) (none_below s xs h.1)

pub none_above : (s : ℕ) (xs : List ℕ) → Each (λ r. s < r) xs → has xs s ≡ false
none_above s [] h = refl
none_above s (x ∷ xs) h = let l = h.0 in or_from (x == s) (has xs s) (ne_eqb x s (λ e. absurd (omega arith))) (none_above s xs h.1)

pub count_before : (s : ℕ) (xs ys : List ℕ) → Each (λ r. r < s) xs → Each (λ r. s ≤ r) ys → count_by (λ r. nat_lt r s) (xs ++ ys) ≡ length xs
count_before s xs ys lower upper = sum_by-append (λ r. cond (nat_lt r s) 1 0) xs ys ∙ omega (arith, all xs lower, none ys upper)
  where
    all : (xs : List ℕ) → Each (λ r. r < s) xs → count_by (λ r. nat_lt r s) xs ≡ length xs
    all [] h = refl
    all (x ∷ xs) h = let l = h.0 in sum_by-cons (λ r. cond (nat_lt r s) 1 0) x xs ∙ omega (arith, all xs h.1, cond-true {A = ℕ} (nat_lt x s) 1 0 (lt-ltb x s l))

    none : (xs : List ℕ) → Each (λ r. s ≤ r) xs → count_by (λ r. nat_lt r s) xs ≡ 0
    none [] h = refl
    none (x ∷ xs) h = let l = h.0 in
        sum_by-cons (λ r. cond (nat_lt r s) 1 0) x xs ∙ omega (arith, none xs h.1, cond-false {A = ℕ} (nat_lt x s) 1 0 (le-ltb x s l))

-- the schedule at a slot: what was released before it
pub record Reached (t : ℕ) (ready rs : List ℕ) (s len fuel : ℕ) (before : List ℕ) : Type 0 where
  pub enough : t < s + fuel
  pub apart : 0 < len
  pub parts : rs ≡ before ++ released (slots_from t fuel s len (drop (length before) ready))
  pub lower : Each (λ r. r < s) before

module _ (t : ℕ) (ready rs : List ℕ) where
  counted : (s len fuel : ℕ) (before : List ℕ) → Reached t ready rs s len fuel before → count_by (λ r. nat_lt r s) rs ≡ length before
  counted s len fuel before w =
      ap (count_by (λ r. nat_lt r s)) w.parts
      ∙ count_before s before (released (slots_from t fuel s len (drop (length before) ready))) w.lower
      (Each-map (IsFrom s t) (λ r. s ≤ r) (λ r f. f.0) (released (slots_from t fuel s len (drop (length before) ready)))
      (all_from t fuel s len (drop (length before) ready)))

  -- an event is released at the slot exactly where the next one is due
  pub has_due : (s len n : ℕ) (before : List ℕ) → Reached t ready rs s len (suc n) before → s ≤ t
      → is_due s (drop (length before) ready) ≡ true → has rs s ≡ true
  has_due s len n before w here d =
      ap (λ z. has z s) (w.parts ∙ ap (λ z. before ++ released z) (slot_due t n s len (drop (length before) ready) here d))
      ∙ list_any-append (λ r. r == s) before (s ∷ released (slots_from t n (s + len) len (drop 1 (drop (length before) ready))))
      ∙ or_right (has before s) (has (s ∷ released (slots_from t n (s + len) len (drop 1 (drop (length before) ready)))) s)
      (or_left (s == s) (has (released (slots_from t n (s + len) len (drop 1 (drop (length before) ready)))) s) (eq-eqb s s refl))

  pub has_free : (s len n : ℕ) (before : List ℕ) → Reached t ready rs s len (suc n) before → s ≤ t
      → is_due s (drop (length before) ready) ≡ false → has rs s ≡ false
  has_free s len n before w here d =
      let a = w.apart in
      let later = released (slots_from t n (s + 2 * len) (2 * len) (drop (length before) ready)) in
      ap (λ z. has z s) (w.parts ∙ ap (λ z. before ++ released z) (slot_free t n s len (drop (length before) ready) here d))
      ∙ list_any-append (λ r. r == s) before later
      ∙ or_from (has before s) (has later s) (none_below s before w.lower)
      (none_above s later (Each-map (IsFrom (s + 2 * len) t) (λ r. s < r) (λ r f. let l = f.0 in
      omega arith) later (all_from t n (s + 2 * len) (2 * len) (drop (length before) ready))))

  exact_at : (s len fuel : ℕ) (before : List ℕ) → Reached t ready rs s len fuel before → s ≤ t
      → has rs s ≡ is_due s (drop (count_by (λ r. nat_lt r s) rs) ready)
  exact_at s len zero before w here = let e = w.enough in absurd (omega arith)
  exact_at s len (suc n) before w here =
      ⊎_elim
      (λ (d : is_due s (drop (length before) ready) ≡ true). has_due s len n before w here d ∙ sym d)
      (λ (d : is_due s (drop (length before) ready) ≡ false). has_free s len n before w here d ∙ sym d)
      (cases_Bool (is_due s (drop (length before) ready)))
      ∙ ap (λ k. is_due s (drop k ready)) (sym (counted s len (suc n) before w))

  pub next_due : (s len n : ℕ) (before : List ℕ) → Reached t ready rs s len (suc n) before → s ≤ t → is_due s (drop (length before) ready) ≡ true
      → Reached t ready rs (s + len) len n (before ++ s ∷ [])
  next_due s len n before w here d =
      let a = w.apart in
      record {
        enough = let e = w.enough in omega arith;
        apart = w.apart;
        parts =
            w.parts
            ∙ ap (λ z. before ++ released z) (slot_due t n s len (drop (length before) ready) here d)
            ∙ ap (λ z. before ++ s ∷ released (slots_from t n (s + len) len z)) (drop-drop 1 (length before) ready
            ∙ ap (λ k. drop k ready) (sym (length-append before (s ∷ []))))
            ∙ sym (append_assoc before (s ∷ []) (released (slots_from t n (s + len) len (drop (length (before ++ s ∷ [])) ready))));
        lower = Each-append (λ r. r < s + len) before (s ∷ []) (Each-map (λ r. r < s) (λ r. r < s + len) (λ r l. omega arith) before w.lower) (omega arith, tt);
      }

  pub next_free : (s len n : ℕ) (before : List ℕ) → Reached t ready rs s len (suc n) before → s ≤ t → is_due s (drop (length before) ready) ≡ false
      → Reached t ready rs (s + 2 * len) (2 * len) n before
  next_free s len n before w here d =
      let a = w.apart in
      record {
        enough = let e = w.enough in omega arith;
        apart = omega arith;
        parts = w.parts ∙ ap (λ z. before ++ released z) (slot_free t n s len (drop (length before) ready) here d);
        lower = Each-map (λ r. r < s) (λ r. r < s + 2 * len) (λ r l. omega arith) before w.lower;
      }

  -- some fuel and some releases before the slot
  abbrev IsReached : Place → Type 0
  IsReached p = (fuel : ℕ) × (before : List ℕ) × Reached t ready rs p.cycle p.apart fuel before

  pub slot_with : (p : Place) → has rs p.cycle ≡ true → slot_after rs p ≡ record { cycle = p.cycle + p.apart; apart = p.apart }
  slot_with p h = cond-true (has rs p.cycle) _ _ h

  pub slot_without : (p : Place) → has rs p.cycle ≡ false → slot_after rs p ≡ record { cycle = p.cycle + 2 * p.apart; apart = 2 * p.apart }
  slot_without p h = cond-false (has rs p.cycle) _ _ h

  next_reached : (p : Place) (fuel : ℕ) (before : List ℕ) → Reached t ready rs p.cycle p.apart fuel before → p.cycle ≤ t → IsReached (slot_after rs p)
  next_reached p zero before w here = let e = w.enough in absurd (omega arith)
  next_reached p (suc n) before w here =
      ⊎_elim
      (λ (d : is_due p.cycle (drop (length before) ready) ≡ true).
      subst IsReached (sym (slot_with p (has_due p.cycle p.apart n before w here d))) (n, before ++ p.cycle ∷ [], next_due p.cycle p.apart n before w here d))
      (λ (d : is_due p.cycle (drop (length before) ready) ≡ false).
      subst IsReached (sym (slot_without p (has_free p.cycle p.apart n before w here d))) (n, before, next_free p.cycle p.apart n before w here d))
      (cases_Bool (is_due p.cycle (drop (length before) ready)))

  pub later_slot : (p : Place) → p.cycle ≤ (slot_after rs p).cycle
  later_slot p = cond_both (has rs p.cycle) (record { cycle = p.cycle + p.apart; apart = p.apart }) (record {
    cycle = p.cycle + 2 * p.apart;
    apart =
        2 * p.apart;
  }) (λ (z : Place). p.cycle ≤ z.cycle) (λ e. omega arith) (λ e. omega arith)

  reached : (q : ℕ) → Reached t ready rs q q t [] → (k : ℕ) → (nth_slot q rs k).cycle ≤ t → IsReached (nth_slot q rs k)
  reached q w zero here = (t, [], w)
  reached q w (suc k) here =
      let early : (nth_slot q rs k).cycle ≤ t = omega (arith, later_slot (nth_slot q rs k), here) in
      let r = reached q w k early in
      next_reached (nth_slot q rs k) r.0 r.1 r.2 early

  abbrev pub IsAtSlot : ℕ → ℕ → Type 0
  IsAtSlot q r = (j : ℕ) × (r ≡ (nth_slot q rs j).cycle)

  -- each release from a slot on is at a slot
  found : (q k : ℕ) (s len fuel : ℕ) (before : List ℕ) → nth_slot q rs k ≡ record { cycle = s; apart = len } → Reached t ready rs s len fuel before
      → Each (IsAtSlot q) (released (slots_from t fuel s len (drop (length before) ready)))
  found q k s len zero before at w = tt
  found q k s len (suc n) before at w =
      ⊎_elim
      (λ (late : t < s). subst (λ z. Each (IsAtSlot q) (released z)) (sym (no_slots t (suc n) s len (drop (length before) ready) late)) tt)
      (λ (here : s ≤ t).
      ⊎_elim
      (λ (d : is_due s (drop (length before) ready) ≡ true).
      subst (λ z. Each (IsAtSlot q) (released z)) (sym (slot_due t n s len (drop (length before) ready) here d)) (
        (k, ap (λ (p : Place). p.cycle) (sym at)),
        subst (λ l. Each (IsAtSlot q) (released (slots_from t n (s + len) len l))) (ap (λ i. drop i ready) (length-append before (s ∷ []))
            ∙ sym (drop-drop 1 (length before) ready))
            (found q (suc k) (s + len) len n (before ++ s ∷ []) (ap (slot_after rs) at
            ∙ slot_with (record { cycle = s; apart = len }) (has_due s len n before w here d)) (next_due s len n before w here d)),
      ))
      (λ (d : is_due s (drop (length before) ready) ≡ false).
      subst (λ z. Each (IsAtSlot q) (released z)) (sym (slot_free t n s len (drop (length before) ready) here d))
      (found q (suc k) (s + 2 * len) (2 * len) n before (ap (slot_after rs) at
      ∙ slot_without (record { cycle = s; apart = len }) (has_free s len n before w here d)) (next_free s len n before w here d)))
      (cases_Bool (is_due s (drop (length before) ready))))
      (cases_lt t s)

pub is_schedule : (q t : ℕ) → 0 < q → (ready : List ℕ) → IsSchedule q t ready (releases q t ready)
is_schedule q t pq ready =
    record {
      rises = all_rise t t q q ready pq;
      at_slots =
          Each-both (λ s. s ≤ t) (λ s. (k : ℕ) × (s ≡ (nth_slot q (releases q t ready) k).cycle)) (releases q t ready)
          (Each-map (IsFrom q t) (λ s. s ≤ t) (λ r f. f.1) (releases q t ready) (all_from t t q q ready))
          (found t ready (releases q t ready) q 0 q q t [] refl start);
      exactly = λ k here.
          let r = reached t ready (releases q t ready) q start k here in
          exact_at t ready (releases q t ready) (nth_slot q (releases q t ready) k).cycle (nth_slot q (releases q t ready) k).apart r.0 r.1 r.2 here;
    }
  where
    start : Reached t ready (releases q t ready) q q t []
    start = record { enough = omega arith; apart = pq; parts = refl; lower = tt }
