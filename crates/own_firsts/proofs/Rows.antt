-- How a row comes of the one after it.
use Rattle.std.proofs.Common.{◌≡◌, ◌≢◌, ℕ, suc, ◌+◌, ◌-◌, ◌<◌, ◌≤◌, List, length, set, get_or, Option, Some, None, refl, sym, ap, ◌∙◌, subst}
use Rattle.std.proofs.Common.{get_or-set_same, get_or-set_other, ⊎_elim, arith}
use Rattle.std.specs.Prelude.{cond, ltb, slice_index_or}
use Rattle.std.proofs.lemmas.Bool.{cases_eq}
use Rattle.sharp_count.specs.Count.{fitting}
use Rattle.sharp_count.proofs.Fitting.{fits}
use Rattle.own_firsts.specs.Count.{lists_below}
use Rattle.own_firsts.specs.Rows.{IsRow}

-- no list of no numbers is too many
none_below : (limits : ℕ → ℕ) (m c i : ℕ) → lists_below limits m c i 0 ≡ 1
unfolding lists_below
none_below limits m c i = refl

no_values : (limits : ℕ → ℕ) (m i k : ℕ) → lists_below limits m 0 i (suc k) ≡ 0
unfolding lists_below
no_values limits m i k = refl

one_cell : (limits : ℕ → ℕ) (m c i k : ℕ) → lists_below limits m (suc c) i (suc k)
    ≡ cond (ltb m (limits i)) (lists_below limits m (suc c) (i + 1) k) 0 + lists_below limits (suc m) c i (suc k)
unfolding lists_below
one_cell limits m c i k = refl

-- the places from m on
pub record FromPlace (limits : ℕ → ℕ) (d i k m : ℕ) (next : List (Option ℕ)) : Type 0 where
  pub made : (j : ℕ) → m ≤ j → j ≤ d → get_or next j None ≡ fitting (lists_below limits j (d - j) i (suc k))

pub last_place : (limits : ℕ → ℕ) (d i k : ℕ) (next : List (Option ℕ)) → get_or next d None ≡ Some 0 → FromPlace limits d i k d next
last_place limits d i k next e = record { made = at }
  where
    at : (j : ℕ) → d ≤ j → j ≤ d → get_or next j None ≡ fitting (lists_below limits j (d - j) i (suc k))
    at j low le =
        let here : d ≡ j = omega arith in
        let none : d - j ≡ 0 = omega arith in
        let is : lists_below limits j (d - j) i (suc k) ≡ 0 = ap (λ z. lists_below limits j z i (suc k)) none ∙ no_values limits j i k in
        ap (λ z. get_or next z None) (sym here) ∙ e ∙ sym (ap fitting is ∙ fits 0 (omega arith))

-- one place more
pub more_place : (limits : ℕ → ℕ) (d i k m limit : ℕ) (row next : List (Option ℕ)) (one all : Option ℕ) → limits i ≡ limit → m < d → m < length next
    → IsRow limits d (i + 1) k row → FromPlace limits d i k (suc m) next
    → ((n : ℕ) → slice_index_or row m None ≡ fitting n → one ≡ fitting (cond (ltb m limit) n 0))
    → ((a b : ℕ) → one ≡ fitting a → get_or next (suc m) None ≡ fitting b → all ≡ fitting (a + b)) → FromPlace limits d i k m (set next m all)
more_place limits d i k m limit row next one all is lt long rows h first sum = record { made = at }
  where
    here : all ≡ fitting (lists_below limits m (d - m) i (suc k))
    here =
        let c = d - suc m in
        let left : d - m ≡ suc c = omega arith in
        let follow = lists_below limits m (d - m) (i + 1) k in
        let a = first follow (rows m (omega arith)) in
        let b = h.made (suc m) (omega arith) (omega arith) in
        let cell = ap (λ z. lists_below limits m z i (suc k)) left ∙ one_cell limits m c i k
        ∙ ap (λ z. cond (ltb m (limits i)) (lists_below limits m z (i + 1) k) 0 + lists_below limits (suc m) c i (suc k)) (sym left)
        ∙ ap (λ z. cond (ltb m z) follow 0 + lists_below limits (suc m) c i (suc k)) is in
        sum (cond (ltb m limit) follow 0) (lists_below limits (suc m) c i (suc k)) a b ∙ ap fitting (sym cell)

    at : (j : ℕ) → m ≤ j → j ≤ d → get_or (set next m all) j None ≡ fitting (lists_below limits j (d - j) i (suc k))
    at j low le =
        ⊎_elim
        (λ (e : j ≡ m). subst (λ z. get_or (set next m all) z None ≡ fitting (lists_below limits z (d - z) i (suc k))) (sym e)
        (get_or-set_same next m all None long ∙ here))
        (λ (ne : j ≡ m → ⊥). let apart : j ≢ m = ne in get_or-set_other next m j all None apart ∙ h.made j (omega arith) le)
        (cases_eq j m)

pub row_of_none : (limits : ℕ → ℕ) (d i : ℕ) (row : List (Option ℕ)) → ((m : ℕ) → m ≤ d → get_or row m None ≡ Some 1) → IsRow limits d i 0 row
row_of_none limits d i row h m le = h m le ∙ sym (ap fitting (none_below limits m (d - m) i) ∙ fits 1 (omega arith))
