-- No other list of releases is as the facts on the whole list say.
use Rattle.std.proofs.Common.{◌≡◌, ℕ, zero, suc, ◌+◌, ◌-◌, ◌*◌, ◌<◌, ◌≤◌, List, [], ◌∷◌, ◌++◌, length, drop, append_assoc, refl, sym, ap, ◌∙◌, subst, ⊎_elim}
use Rattle.std.proofs.Common.{arith, length-append}
use Rattle.std.specs.List.{AllZip}
use Rattle.std.specs.Prelude.{map, true, false, ◌||◌, ◌==◌, nat_lt, count_by}
use Rattle.std.proofs.lemmas.Bool.{cases_Bool, cases_lt, cases_eq, both_ways, or_parts, eqb-false}
use Rattle.std.proofs.lemmas.List.{drop-drop}
use Rattle.std.proofs.lemmas.List.Folds.{list_any-append}
use Rattle.leak_bound.specs.Records.{Each}
use Rattle.leak_bound.proofs.Few.{Each-map, Each-append}
use Rattle.black_box.specs.Schedule.{is_due, Place, has, slot_after, nth_slot, Rises, IsSchedule}
use Rattle.black_box.specs.Computed.{slots_from, released, releases}
use Rattle.black_box.proofs.UnderWay.{no_slots, slot_due, slot_free}
use Rattle.black_box.proofs.FactsMet.{none_below, none_above, count_before, slot_with, slot_without, later_slot}

abbrev Late : ℕ → ℕ → ℕ → Type 0
Late s t r = (s ≤ r) × (r ≤ t)

nothing_left : (s t : ℕ) (xs : List ℕ) → t < s → Each (λ r. s ≤ r) xs → Each (λ r. r ≤ t) xs → xs ≡ []
nothing_left s t [] h a b = refl
nothing_left s t (x ∷ xs) h a b = let p = a.0 in let q = b.0 in absurd (omega arith)

Each-back : (P : ℕ → Type 0) (xs ys : List ℕ) → Each P (xs ++ ys) → Each P ys
Each-back P [] ys h = h
Each-back P (x ∷ xs) ys h = Each-back P xs ys h.1

Rises-back : (xs ys : List ℕ) → Rises (xs ++ ys) → Rises ys
Rises-back [] ys h = h
Rises-back (x ∷ xs) ys h = Rises-back xs ys h.1

module _ (q t : ℕ) (ready rs : List ℕ) (is : IsSchedule q t ready rs) where
  -- slots rise
  slots_rise : (j d : ℕ) → (nth_slot q rs j).cycle ≤ (nth_slot q rs (j + d)).cycle
  slots_rise j zero = let e : j ≡ j + 0 = omega arith in subst (λ k. (nth_slot q rs j).cycle ≤ (nth_slot q rs k).cycle) e (omega arith)
  slots_rise j (suc d) =
      let e : suc (j + d) ≡ j + suc d = omega arith in
      let up = later_slot t ready rs (nth_slot q rs (j + d)) in
      subst (λ k. (nth_slot q rs j).cycle ≤ (nth_slot q rs k).cycle) e (omega (arith, slots_rise j d, up))

  -- a slot after the one with number k is not before the next one
  not_between : (k j : ℕ) → (nth_slot q rs k).cycle < (nth_slot q rs j).cycle → (nth_slot q rs (suc k)).cycle ≤ (nth_slot q rs j).cycle
  not_between k j h =
      ⊎_elim
      (λ (lt : k < j). let e : suc k + (j - suc k) ≡ j = omega arith in
      subst (λ i. (nth_slot q rs (suc k)).cycle ≤ (nth_slot q rs i).cycle) e (slots_rise (suc k) (j - suc k)))
      (λ (ge : j ≤ k). let e : j + (k - j) ≡ k = omega arith in let up : (nth_slot q rs j).cycle ≤ (nth_slot q rs k).cycle =
      subst (λ i. (nth_slot q rs j).cycle ≤ (nth_slot q rs i).cycle) e (slots_rise j (k - j)) in absurd (omega (arith, up)))
      (cases_lt k j)

  abbrev IsOn : ℕ → Type 0
  IsOn r = (r ≤ t) × ((k : ℕ) × (r ≡ (nth_slot q rs k).cycle))

  -- releases after the slot with number k are not before the next one
  skip : (k : ℕ) (xs : List ℕ) → Each IsOn xs → Each (λ r. (nth_slot q rs k).cycle < r) xs → Each (λ r. (nth_slot q rs (suc k)).cycle ≤ r) xs
  skip k [] on up = tt
  skip k (x ∷ xs) on up =
      let at = on.0.1.1 in
      (subst (λ z. (nth_slot q rs (suc k)).cycle ≤ z) (sym at) (not_between k on.0.1.0 (subst (λ z. (nth_slot q rs k).cycle < z) at up.0)), skip k xs on.1 up.1)

  above : (s : ℕ) (xs : List ℕ) → has xs s ≡ false → Each (λ r. s ≤ r) xs → Each (λ r. s < r) xs
  above s [] h up = tt
  above s (x ∷ xs) h up =
      let p = or_parts (x == s) (has xs s) h in
      let ne = eqb-false x s p.0 in
      let le = up.0 in
      (omega (arith, ne, le), above s xs p.1 up.1)

  -- a list that rises from s on, and has s, begins with it
  begins : (s : ℕ) (xs : List ℕ) → has xs s ≡ true → Each (λ r. s ≤ r) xs → Rises xs → (ys : List ℕ) × (xs ≡ s ∷ ys) × Each (λ r. s < r) ys
  begins s [] h up r = cc
  begins s (x ∷ xs) h up r =
      ⊎_elim
      (λ (e : x ≡ s). (xs, ap (λ z. z ∷ xs) e, subst (λ z. Each (λ r. z < r) xs) e r.0))
      (λ (ne : x ≡ s → ⊥).
      let le = up.0 in
      let lt : s < x = omega (arith, ne, le) in
      absurd (both_ways (has (x ∷ xs) s) (none_above s (x ∷ xs) (lt, Each-map (λ y. x < y) (λ y. s < y) (λ y l. omega arith) xs r.0)) h))
      (cases_eq x s)

  once_from : (m k s len : ℕ) (before tail : List ℕ) → nth_slot q rs k ≡ record { cycle = s; apart = len } → rs ≡ before ++ tail → Each (λ r. r < s) before
      → Each (λ r. s ≤ r) tail → t < s + m → 0 < len → tail ≡ released (slots_from t m s len (drop (length before) ready))
  once_from zero k s len before tail at parts lower upper enough apart =
      nothing_left s t tail (omega arith) upper
      (Each-map IsOn (λ r. r ≤ t) (λ r o. o.0) tail (Each-back IsOn before tail (subst (Each IsOn) parts is.at_slots)))
  once_from (suc m) k s len before tail at parts lower upper enough apart =
      ⊎_elim
      (λ (late : t < s).
      nothing_left s t tail late upper (Each-map IsOn (λ r. r ≤ t) (λ r o. o.0) tail on)
      ∙ sym (ap released (no_slots t (suc m) s len (drop (length before) ready) late)))
      (λ (here : s ≤ t).
      ⊎_elim
      (λ (d : is_due s (drop (length before) ready) ≡ true). due here d
      (λ xs p u. once_from m (suc k) (s + len) len (before ++ s ∷ []) xs (next_at_due here d) p
      (Each-append (λ r. r < s + len) before (s ∷ []) (Each-map (λ r. r < s) (λ r. r < s + len) (λ r l. omega arith) before lower) (omega arith, tt)) u
      (omega arith) apart))
      (λ (d : is_due s (drop (length before) ready) ≡ false). free here d
      (λ u. once_from m (suc k) (s + 2 * len) (2 * len) before tail (next_at_free here d) parts (Each-map (λ r. r < s) (λ r. r < s + 2 * len)
      (λ r l. omega arith) before lower) u (omega arith) (omega arith)))
      (cases_Bool (is_due s (drop (length before) ready))))
      (cases_lt t s)
    where
      on : Each IsOn tail
      on = Each-back IsOn before tail (subst (Each IsOn) parts is.at_slots)

      climbs : Rises tail
      climbs = Rises-back before tail (subst Rises parts is.rises)

      cycle_is : (nth_slot q rs k).cycle ≡ s
      cycle_is = ap (λ (p : Place). p.cycle) at

      count : count_by (λ r. nat_lt r s) rs ≡ length before
      count = ap (count_by (λ r. nat_lt r s)) parts ∙ count_before s before tail lower upper

      has_is : s ≤ t → has rs s ≡ is_due s (drop (length before) ready)
      has_is here =
          subst (λ z. has rs z ≡ is_due z (drop (count_by (λ r. nat_lt r z) rs) ready)) cycle_is (is.exactly k (subst (λ z. z ≤ t) (sym cycle_is) here))
          ∙ ap (λ i. is_due s (drop i ready)) count

      tail_has : has rs s ≡ has tail s
      tail_has = ap (λ z. has z s) parts ∙ list_any-append (λ r. r == s) before tail ∙ ap (λ b. b || has tail s) (none_below s before lower)

      next_at_due : s ≤ t → is_due s (drop (length before) ready) ≡ true → nth_slot q rs (suc k) ≡ record { cycle = s + len; apart = len }
      next_at_due here d = ap (slot_after rs) at ∙ slot_with t ready rs (record { cycle = s; apart = len }) (has_is here ∙ d)

      next_at_free : s ≤ t → is_due s (drop (length before) ready) ≡ false → nth_slot q rs (suc k) ≡ record { cycle = s + 2 * len; apart = 2 * len }
      next_at_free here d = ap (slot_after rs) at ∙ slot_without t ready rs (record { cycle = s; apart = len }) (has_is here ∙ d)

      due : s ≤ t → is_due s (drop (length before) ready) ≡ true
          → ((xs : List ℕ) → rs ≡ (before ++ s ∷ []) ++ xs → Each (λ r. s + len ≤ r) xs
          → xs ≡ released (slots_from t m (s + len) len (drop (length (before ++ s ∷ [])) ready)))
          → tail ≡ released (slots_from t (suc m) s len (drop (length before) ready))
      due here d rec =
          let b = begins s tail (sym tail_has ∙ has_is here ∙ d) upper climbs in
          let on_rest : Each IsOn b.0 = (subst (Each IsOn) b.1 on).1 in
          let far : Each (λ r. s + len ≤ r) b.0 =
          subst (λ (p : Place). Each (λ r. p.cycle ≤ r) b.0) (next_at_due here d)
          (skip k b.0 on_rest (subst (λ z. Each (λ r. z < r) b.0) (sym cycle_is) b.2)) in
          let all : rs ≡ (before ++ s ∷ []) ++ b.0 = parts ∙ ap (λ z. before ++ z) b.1 ∙ sym (append_assoc before (s ∷ []) b.0) in
          b.1
          ∙ ap (λ z. s ∷ z) (rec b.0 all far)
          ∙ ap (λ l. s ∷ released (slots_from t m (s + len) len l)) (ap (λ i. drop i ready) (length-append before (s ∷ []))
          ∙ sym (drop-drop 1 (length before) ready))
          ∙ sym (ap released (slot_due t m s len (drop (length before) ready) here d))

      free : s ≤ t → is_due s (drop (length before) ready) ≡ false
          → (Each (λ r. s + 2 * len ≤ r) tail → tail ≡ released (slots_from t m (s + 2 * len) (2 * len) (drop (length before) ready)))
          → tail ≡ released (slots_from t (suc m) s len (drop (length before) ready))
      free here d rec =
          let up = above s tail (sym tail_has ∙ has_is here ∙ d) upper in
          let far : Each (λ r. s + 2 * len ≤ r) tail =
          subst (λ (p : Place). Each (λ r. p.cycle ≤ r) tail) (next_at_free here d)
          (skip k tail on (subst (λ z. Each (λ r. z < r) tail) (sym cycle_is) up)) in
          rec far ∙ sym (ap released (slot_free t m s len (drop (length before) ready) here d))

first_slot : (q : ℕ) (rs : List ℕ) (j : ℕ) → q ≤ (nth_slot q rs j).cycle
first_slot q rs zero = omega arith
first_slot q rs (suc j) = omega (arith, first_slot q rs j, later_slot 0 [] rs (nth_slot q rs j))

all_after : (q t : ℕ) (rs xs : List ℕ) → Each (λ s. (s ≤ t) × ((k : ℕ) × (s ≡ (nth_slot q rs k).cycle))) xs → Each (λ r. q ≤ r) xs
all_after q t rs [] h = tt
all_after q t rs (x ∷ xs) h = (subst (λ z. q ≤ z) (sym h.0.1.1) (first_slot q rs h.0.1.0), all_after q t rs xs h.1)

pub is_only : (q t : ℕ) → 0 < q → (ready rs : List ℕ) → IsSchedule q t ready rs → rs ≡ releases q t ready
is_only q t pq ready rs is = once_from q t ready rs is t 0 q q [] rs refl refl tt (all_after q t rs rs is.at_slots) (omega arith) pq

pub all_releases : (q t : ℕ) → 0 < q → (runs lists : List (List ℕ)) → AllZip (IsSchedule q t) runs lists → lists ≡ map (releases q t) runs
all_releases q t pq [] [] h = refl
all_releases q t pq [] (l ∷ lists) h = absurd h
all_releases q t pq (r ∷ runs) [] h = absurd h
all_releases q t pq (r ∷ runs) (l ∷ lists) h = ap (λ z. z ∷ lists) (is_only q t pq r l h.0) ∙ ap (λ z. releases q t r ∷ z) (all_releases q t pq runs lists h.1)
