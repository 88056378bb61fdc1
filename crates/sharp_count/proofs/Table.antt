-- The table of the ways of one level.
use Rattle.std.proofs.Common.{◌≡◌, ◌≢◌, ℕ, zero, suc, ◌+◌, ◌-◌, ◌/◌, ◌%◌, ◌^◌, ◌<◌, ◌≤◌, List, [], length, set, replicate, get_or, sym, ap, ◌∙◌, subst, arith}
use Rattle.std.proofs.Common.{◌++◌, ◌∷◌, length-append, below_more, get_or-set_same, get_or-set_other}
use Rattle.std.proofs.lemmas.List.{get_or-replicate, get_or_append_left, get_or_push}
use Rattle.std.proofs.Math.Nat.{le-div_iff_mul-le, div-div-eq-div-mul, div-eq_of_lt, pow-suc, zero-div}
use Rattle.std.proofs.lemmas.Nat.{pow_pos}
use Rattle.leak_bound.specs.Digits.{digits}
use Rattle.leak_bound.proofs.Digits.{digits_is}
use Rattle.sharp_count.specs.Shares.{shares, IsRow, IsTable}
use Rattle.sharp_count.proofs.Binary.{digits_few}
use Rattle.sharp_count.proofs.Shares.{shares_fit, one_cell, nothing_left, power_below}

pub row_more : (f : ℕ → ℕ) (row : List ℕ) (i x : ℕ) → i < length row → ((j : ℕ) → j < i → get_or row j 0 ≡ f j) → x ≡ f i → (j : ℕ) → j < i + 1
    → get_or (set row i x) j 0 ≡ f j
row_more f row i x lt h e =
    below_more (λ j. get_or (set row i x) j 0 ≡ f j) i
    (λ j less. let ne : j ≢ i = omega arith in get_or-set_other row i j x 0 ne ∙ h j less)
    (get_or-set_same row i x 0 lt ∙ e)

pub cell_is : (most k spent : ℕ) (halved shorter : List ℕ) → 0 < most → 0 < k → spent + k ≤ 64 → IsRow (most / 2) k halved → IsRow most (k - 1) shorter →
    get_or halved ((spent + 1 - most % 2) / 2) 0 + get_or shorter (spent + 1) 0 ≡ shares (digits most) k most spent
cell_is most k spent halved shorter left some le h s =
    omega (arith, h ((spent + 1 - most % 2) / 2) (omega arith), s (spent + 1) (omega arith), one_cell most k spent left some)

pub cell_fits : (most k spent : ℕ) → most < 2 ^ 64 → k ≤ 64 → shares (digits most) k most spent < 2 ^ 128
cell_fits most k spent lt le = shares_fit (digits most) k most spent (digits_few most 64 lt) le

-- a table that has been made anew as far as the rows below i
pub record Renewed (most i : ℕ) (table : List (List ℕ)) : Type 0 where
  pub made : (k : ℕ) → k < i → IsRow most k (get_or table k [])
  pub left : (k : ℕ) → i ≤ k → k ≤ 64 → IsRow (most / 2) k (get_or table k [])

pub first_row : (most : ℕ) (table : List (List ℕ)) (row : List ℕ) → 0 < length table → IsTable (most / 2) table → IsRow most 0 row
    → Renewed most 1 (set table 0 row)
first_row most table row some h r = record {
  made = λ k lt. let z : 0 ≡ k = omega arith in
      subst (λ k. IsRow most k (get_or (set table 0 row) k [])) z (subst (λ z. IsRow most 0 z) (sym (get_or-set_same table 0 row [] some)) r);
  left = λ k low le. let ne : k ≢ 0 = omega arith in subst (λ z. IsRow (most / 2) k z) (sym (get_or-set_other table 0 k row [] ne)) (h k le);
}

pub next_row : (most i : ℕ) (table : List (List ℕ)) (row : List ℕ) → i < length table → Renewed most i table → IsRow most i row
    → Renewed most (i + 1) (set table i row)
next_row most i table row lt h r = record {
  made = below_more (λ k. IsRow most k (get_or (set table i row) k [])) i
      (λ k less. let ne : k ≢ i = omega arith in subst (λ z. IsRow most k z) (sym (get_or-set_other table i k row [] ne)) (h.made k less))
      (subst (λ z. IsRow most i z) (sym (get_or-set_same table i row [] lt)) r);
  left = λ k low le. let ne : k ≢ i = omega arith in let more : i ≤ k = omega arith in
      subst (λ z. IsRow (most / 2) k z) (sym (get_or-set_other table i k row [] ne)) (h.left k more le);
}

-- with nothing to spend there is the empty list alone
pub zeros : (k : ℕ) → 0 < k → IsRow 0 k (replicate {A = ℕ} 65 0)
zeros k some spent fit = let there : spent < 65 = omega arith in get_or-replicate 65 spent 0 0 there ∙ sym (nothing_left k spent some)

-- a table with one row more
pub push_row : (P : ℕ → List ℕ → Type 0) (old new : List (List ℕ)) (row : List ℕ) (k : ℕ) → new ≡ old ++ row ∷ [] → length old ≡ k → P k row
    → ((j : ℕ) → j < k → P j (get_or old j [])) → (length new ≡ k + 1) × ((j : ℕ) → j < k + 1 → P j (get_or new j []))
push_row P old new row k e fit is before =
    let len = length-append old (row ∷ []) in (
      omega (arith, ap length e, len, fit),
      subst (λ z. (j : ℕ) → j < k + 1 → P j (get_or z j [])) (sym e)
          (below_more (λ j. P j (get_or (old ++ row ∷ []) j [])) k
          (λ j less. subst (P j) (sym (get_or_append_left old (row ∷ []) [] j (omega (arith, less, fit)))) (before j less))
          (subst (P k) (sym (get_or_push old row [] k fit)) is)),
    )

pub none_at_end : (n : ℕ) → n / 2 ^ digits n ≡ 0
none_at_end zero = zero-div (2 ^ digits 0)
none_at_end (suc n) =
    let r = digits_is (suc n) (omega arith) in
    div-eq_of_lt (subst (λ z. suc n < 2 ^ z) (sym r.1) r.2)

pub again_halved : (n p : ℕ) → n / 2 ^ (p + 1) ≡ n / 2 ^ p / 2
again_halved n p = let e : p + 1 ≡ suc p = omega arith in ap (λ z. n / 2 ^ z) e ∙ ap (λ z. n / z) (pow-suc 2 p) ∙ sym (div-div-eq-div-mul n (2 ^ p) 2)

pub some_left : (n p : ℕ) → p < digits n → 0 < n / 2 ^ p
some_left n p lt = let one = (le-div_iff_mul-le {k = 2 ^ p} {x = 1} {y = n} (pow_pos p)).1 (omega (arith, power_below n p lt)) in omega (arith, one)
