-- The epochs of the computed schedule are counted by its slots without a release.
use Rattle.std.proofs.Common.{◌≡◌, ℕ, zero, suc, ◌+◌, ◌*◌, ◌<◌, ◌≤◌, List, [], ◌∷◌, ◌++◌, length, drop, refl, sym, ap, ◌∙◌, subst, ⊎_elim, arith, length-append}
use Rattle.std.specs.Prelude.{true, false, cond, not, ◌&&◌, nat_le}
use Rattle.std.proofs.lemmas.Bool.{cases_Bool, cases_lt, cond-true, cond-false, and_from, and_left, and_right, not_from_true, not_from_false, le-leb, lt-leb}
use Rattle.std.proofs.lemmas.List.{drop-drop}
use Rattle.black_box.specs.Schedule.{is_due, Place, has, slot_after, nth_slot, empty_slots, begun_epochs}
use Rattle.black_box.specs.Computed.{slots_from, ended, releases, epochs}
use Rattle.black_box.specs.Outcomes.{IsOutcome, outcome}
use Rattle.black_box.proofs.UnderWay.{no_slots, slot_due, slot_free}
use Rattle.black_box.proofs.FactsMet.{Reached, has_due, has_free, next_due, next_free, slot_with, slot_without, later_slot, is_schedule}
use Rattle.black_box.proofs.OneSchedule.{is_only}

-- 1 at a slot up to t without a release
abbrev is_empty : ℕ → List ℕ → Place → ℕ
is_empty t rs p = cond (nat_le p.cycle t && not (has rs p.cycle)) 1 0

-- such slots among m from the one with number k on
abbrev empty_from : ℕ → ℕ → List ℕ → ℕ → ℕ → ℕ
empty_from q t rs k zero = 0
empty_from q t rs k (suc m) = is_empty t rs (nth_slot q rs k) + empty_from q t rs (suc k) m

empty_more : (q t : ℕ) (rs : List ℕ) (m k : ℕ) → empty_slots q t rs (k + m) ≡ empty_slots q t rs k + empty_from q t rs k m
empty_more q t rs zero k = let e : k ≡ k + 0 = omega arith in subst (λ z. empty_slots q t rs z ≡ empty_slots q t rs k + 0) e (omega arith)
empty_more q t rs (suc m) k =
    let e : suc k + m ≡ k + suc m = omega arith in
    subst (λ z. empty_slots q t rs z ≡ empty_slots q t rs k + empty_from q t rs k (suc m)) e (omega (arith, empty_more q t rs m (suc k)))

module _ (q t : ℕ) (ready rs : List ℕ) where
  none_late : (m k : ℕ) → t < (nth_slot q rs k).cycle → empty_from q t rs k m ≡ 0
  none_late zero k h = refl
  none_late (suc m) k h =
      let here = cond-false {A = ℕ} (nat_le (nth_slot q rs k).cycle t && not (has rs (nth_slot q rs k).cycle)) 1 0
      (and_left (nat_le (nth_slot q rs k).cycle t) (not (has rs (nth_slot q rs k).cycle)) (lt-leb (nth_slot q rs k).cycle t h)) in
      let up = later_slot t ready rs (nth_slot q rs k) in
      omega (arith, here, none_late m (suc k) (omega (arith, up, h)))

  full : (s len : ℕ) → has rs s ≡ true → is_empty t rs (record { cycle = s; apart = len }) ≡ 0
  full s len h = cond-false {A = ℕ} (nat_le s t && not (has rs s)) 1 0 (and_right (nat_le s t) (not (has rs s)) (not_from_true (has rs s) h))

  bare : (s len : ℕ) → s ≤ t → has rs s ≡ false → is_empty t rs (record { cycle = s; apart = len }) ≡ 1
  bare s len here h = cond-true {A =
      ℕ} (nat_le s t && not (has rs s)) 1 0 (and_from (nat_le s t) (not (has rs s)) (le-leb s t here) (not_from_false (has rs s) h))

  ended_is : (m k s len : ℕ) (before : List ℕ) → nth_slot q rs k ≡ record { cycle = s; apart = len } → Reached t ready rs s len m before
      → ended (slots_from t m s len (drop (length before) ready)) ≡ empty_from q t rs k m
  ended_is zero k s len before at w = refl
  ended_is (suc m) k s len before at w =
      ⊎_elim
      (λ (late : t < s).
      ap ended (no_slots t (suc m) s len (drop (length before) ready) late)
      ∙ sym (none_late (suc m) k (subst (λ (p : Place). t < p.cycle) (sym at) late)))
      (λ (here : s ≤ t).
      ⊎_elim
      (λ (d : is_due s (drop (length before) ready) ≡ true).
      let h = has_due t ready rs s len m before w here d in
      let now = ap ended (slot_due t m s len (drop (length before) ready) here d) in
      let left = ap (λ l. ended (slots_from t m (s + len) len l)) (drop-drop 1 (length before) ready
      ∙ ap (λ i. drop i ready) (sym (length-append before (s ∷ [])))) in
      let rest = ended_is m (suc k) (s + len) len (before ++ s ∷ []) (ap (slot_after rs) at ∙ slot_with t ready rs (record { cycle = s; apart = len }) h)
      (next_due t ready rs s len m before w here d) in
      let none = ap (is_empty t rs) at ∙ full s len h in
      omega (arith, now, left, rest, none))
      (λ (d : is_due s (drop (length before) ready) ≡ false).
      let h = has_free t ready rs s len m before w here d in
      let now = ap ended (slot_free t m s len (drop (length before) ready) here d) in
      let rest = ended_is m (suc k) (s + 2 * len) (2 * len) before (ap (slot_after rs) at ∙ slot_without t ready rs (record { cycle = s; apart = len }) h)
      (next_free t ready rs s len m before w here d) in
      let one = ap (is_empty t rs) at ∙ bare s len here h in
      omega (arith, now, rest, one))
      (cases_Bool (is_due s (drop (length before) ready))))
      (cases_lt t s)

epochs_are : (q t : ℕ) → 0 < q → (ready : List ℕ) → epochs q t ready ≡ begun_epochs q t (releases q t ready)
epochs_are q t pq ready =
    let rs = releases q t ready in
    let start : Reached t ready (releases q t ready) q q t [] = record { enough = omega arith; apart = pq; parts = refl; lower = tt } in
    let a = ended_is q t ready rs t 0 q q [] refl start in
    let e : 0 + t ≡ t = omega arith in
    let b : empty_slots q t (releases q t ready) t ≡ 0 + empty_from q t (releases q t ready) 0 t =
    subst (λ z. empty_slots q t (releases q t ready) z ≡ 0 + empty_from q t (releases q t ready) 0 t) e (empty_more q t rs t 0) in
    omega (arith, a, b)

pub is_outcome : (q t : ℕ) → 0 < q → (ready : List ℕ) → IsOutcome q t ready (outcome q t ready)
is_outcome q t pq ready = record {
  schedule = is_schedule q t pq ready;
  only = is_only q t pq ready;
  epochs = epochs_are q t pq ready;
}
