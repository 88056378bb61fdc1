-- The schedule so far, and what is left of it.
use Rattle.std.proofs.Common.{◌≡◌, ℕ, zero, suc, ◌+◌, ◌*◌, ◌^◌, ◌<◌, ◌≤◌, ⊎_elim, List, [], ◌∷◌, ◌++◌, length, drop, append_assoc, append-nil, refl, sym, ap}
use Rattle.std.proofs.Common.{◌∙◌, subst, arith, length-append}
use Rattle.std.specs.Prelude.{Bool, true, false, nat_le}
use Rattle.std.proofs.lemmas.Bool.{cond-true, cond-false, le-leb, lt-leb, cases_lt}
use Rattle.std.proofs.lemmas.List.{drop-drop}
use Rattle.std.proofs.Math.Nat.{pow-succ', pow-le-pow_right}
use Rattle.black_box.specs.Schedule.{is_due}
use Rattle.black_box.specs.Computed.{Slot, slots_from, slots, released, ended}

-- a slot at s with the slots after it
abbrev pub slot_then : ℕ → Bool → List Slot → List Slot
slot_then s b rest = record { cycle = s; releases = b } ∷ rest

pub no_slots : (t n s len : ℕ) (rs : List ℕ) → t < s → slots_from t n s len rs ≡ []
no_slots t zero s len rs h = refl
no_slots t (suc n) s len rs h = cond-false (nat_le s t) _ [] (lt-leb s t h)

pub slot_due : (t n s len : ℕ) (rs : List ℕ) → s ≤ t → is_due s rs ≡ true
    → slots_from t (suc n) s len rs ≡ slot_then s true (slots_from t n (s + len) len (drop 1 rs))
slot_due t n s len rs h d = cond-true (nat_le s t) _ [] (le-leb s t h) ∙ cond-true (is_due s rs) _ _ d

pub slot_free : (t n s len : ℕ) (rs : List ℕ) → s ≤ t → is_due s rs ≡ false
    → slots_from t (suc n) s len rs ≡ slot_then s false (slots_from t n (s + 2 * len) (2 * len) rs)
slot_free t n s len rs h d = cond-true (nat_le s t) _ [] (le-leb s t h) ∙ cond-false (is_due s rs) _ _ d

pub record IsUnderWay (q t : ℕ) (ready : List ℕ) (s len count : ℕ) (at : List ℕ) : Type 0 where
  pub fuel : ℕ
  pub enough : t < s + fuel
  pub all_released : at ++ released (slots_from t fuel s len (drop (length at) ready)) ≡ released (slots q t ready)
  pub all_ended : count + ended (slots_from t fuel s len (drop (length at) ready)) ≡ suc (ended (slots q t ready))
  pub apart : 0 < len
  pub early : len ≤ s
  pub few : 2 ^ count ≤ 2 * len

pub begins : (q t : ℕ) (ready : List ℕ) → 0 < q → IsUnderWay q t ready q q 1 []
begins q t ready h = record {
  fuel = t;
  enough = omega arith;
  all_released = refl;
  all_ended = omega arith;
  apart = h;
  early = omega arith;
  few = omega arith;
}

-- an event is released
pub releases_one : (q t : ℕ) (ready : List ℕ) (s len count : ℕ) (at : List ℕ) → IsUnderWay q t ready s len count at → s ≤ t
    → is_due s (drop (length at) ready) ≡ true → IsUnderWay q t ready (s + len) len count (at ++ s ∷ [])
releases_one q t ready s len count at w h d = go w.fuel w.enough w.all_released w.all_ended
  where
    next : drop (length at + 1) ready ≡ drop 1 (drop (length at) ready)
    next = sym (drop-drop 1 (length at) ready)

    one_more : drop (length (at ++ s ∷ [])) ready ≡ drop 1 (drop (length at) ready)
    one_more = let e : length (at ++ s ∷ []) ≡ length at + 1 = length-append at (s ∷ []) in ap (λ k. drop k ready) e ∙ next

    go : (n : ℕ) → t < s + n → at ++ released (slots_from t n s len (drop (length at) ready)) ≡ released (slots q t ready)
        → count + ended (slots_from t n s len (drop (length at) ready)) ≡ suc (ended (slots q t ready))
        → IsUnderWay q t ready (s + len) len count (at ++ s ∷ [])
    go zero lt r e = absurd (omega arith)
    go (suc n) lt r e =
        let now = slot_due t n s len (drop (length at) ready) h d in
        record {
          fuel = n;
          enough = let a = w.apart in omega arith;
          all_released =
              append_assoc at (s ∷ []) (released (slots_from t n (s + len) len (drop (length (at ++ s ∷ [])) ready)))
              ∙ ap (λ l. at ++ s ∷ released (slots_from t n (s + len) len l)) one_more
              ∙ ap (λ x. at ++ released x) (sym now)
              ∙ r;
          all_ended =
              ap (λ l. count + ended (slots_from t n (s + len) len l)) one_more
              ∙ ap (λ x. count + ended x) (sym now)
              ∙ e;
          apart = w.apart;
          early = let a = w.early in omega arith;
          few = w.few;
        }

-- the epoch ends
pub ends_one : (q t : ℕ) (ready : List ℕ) (s len count : ℕ) (at : List ℕ) → IsUnderWay q t ready s len count at → s ≤ t
    → is_due s (drop (length at) ready) ≡ false → IsUnderWay q t ready (s + 2 * len) (2 * len) (suc count) at
ends_one q t ready s len count at w h d = go w.fuel w.enough w.all_released w.all_ended
  where
    go : (n : ℕ) → t < s + n → at ++ released (slots_from t n s len (drop (length at) ready)) ≡ released (slots q t ready)
        → count + ended (slots_from t n s len (drop (length at) ready)) ≡ suc (ended (slots q t ready))
        → IsUnderWay q t ready (s + 2 * len) (2 * len) (suc count) at
    go zero lt r e = absurd (omega arith)
    go (suc n) lt r e =
        let now = slot_free t n s len (drop (length at) ready) h d in
        let later : count + ended (slots_from t (suc n) s len (drop (length at) ready))
        ≡ count + suc (ended (slots_from t n (s + 2 * len) (2 * len) (drop (length at) ready))) = ap (λ x. count + ended x) now in
        record {
          fuel = n;
          enough = let a = w.apart in omega arith;
          all_released = ap (λ x. at ++ released x) (sym now) ∙ r;
          all_ended = omega (arith, later, e);
          apart = let a = w.apart in omega arith;
          early = omega arith;
          few = let a = w.few in omega (arith, pow-succ' 2 count);
        }

-- no slot is left
pub is_over : (q t : ℕ) (ready : List ℕ) (s len count : ℕ) (at : List ℕ) → IsUnderWay q t ready s len count at → t < s → (at ≡ released (slots q t ready))
    × (count ≡ suc (ended (slots q t ready)))
is_over q t ready s len count at w h =
    let none = no_slots t w.fuel s len (drop (length at) ready) h in
    let a : at ++ released (slots_from t w.fuel s len (drop (length at) ready)) ≡ at ++ [] = ap (λ x. at ++ released x) none in
    let b : count + ended (slots_from t w.fuel s len (drop (length at) ready)) ≡ count + 0 = ap (λ x. count + ended x) none in
    (sym (append-nil at) ∙ sym a ∙ w.all_released, let c = w.all_ended in omega (arith, b, c))

-- equal numbers and lists have gone as far
pub as_far : (q t : ℕ) (ready : List ℕ) (s s' len len' count count' : ℕ) (at at' : List ℕ) → s ≡ s' → len ≡ len' → count ≡ count' → at ≡ at'
    → IsUnderWay q t ready s len count at → IsUnderWay q t ready s' len' count' at'
as_far q t ready s s' len len' count count' at at' es el ec ea w =
    subst (λ z. IsUnderWay q t ready s' len' count' z) ea
    (subst (λ z. IsUnderWay q t ready s' len' z at) ec
    (subst (λ z. IsUnderWay q t ready s' z count at) el
    (subst (λ z. IsUnderWay q t ready z len count at) es w)))

-- few epochs begin by 2 ^ 40
pub few_epochs : (count len s : ℕ) → 2 ^ count ≤ 2 * len → len ≤ s → s ≤ 2 ^ 40 → count ≤ 41
few_epochs count len s few early h =
    ⊎_elim
    (λ (lt : 41 < count). let two : 0 < 2 = omega arith in let up : 42 ≤ count = omega arith in absurd (omega (arith, pow-le-pow_right two up, few, early, h)))
    (λ (le : count ≤ 41). le)
    (cases_lt 41 count)
