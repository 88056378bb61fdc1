-- The values that a choice takes, one after another.
use Rattle.std.proofs.Common.{◌≡◌, ◌∙◌, refl, sym, ap, ℕ, ℤ, zero, suc, ◌+◌, ◌<◌, ◌≤◌, List, [], ◌∷◌, ◌++◌, length, drop, get_or, arith}
use Rattle.std.proofs.Common.{drop-cons, add-one, append_assoc, append-nil}
use Rattle.std.proofs.lemmas.List.{length-map, drop_all}
use Rattle.start_space.specs.Space.{IsChoice}
use Rattle.space_starts.specs.declared.space.Interval.{Interval}
use Rattle.space_starts.specs.Space.{many, value_in, counts, chosen}

pub choice_long : (ranges choice : List ℕ) → IsChoice ranges choice → length choice ≡ length ranges
choice_long [] choice is = ap length is
choice_long (v ∷ r) [] is = absurd is
choice_long (v ∷ r) (c ∷ cs) is = let e = choice_long r cs is.1 in omega (arith, e)

pub choice_wide : (vs : List (List Interval)) (cs : List ℕ) → IsChoice (counts vs) cs → length cs ≡ length vs
choice_wide vs cs h = choice_long (counts vs) cs h ∙ length-map vs many

pub choice_below : (vs : List (List Interval)) (cs : List ℕ) (k : ℕ) (d : List Interval) → IsChoice (counts vs) cs → k < length vs
    → get_or cs k 0 < many (get_or vs k d)
choice_below [] cs k d h lt = absurd (omega (arith, lt))
choice_below (v ∷ vs) [] k d h lt = absurd h
choice_below (v ∷ vs) (c ∷ cs) zero d h lt = h.0
choice_below (v ∷ vs) (c ∷ cs) (suc k) d h lt = choice_below vs cs k d h.1 (omega (arith, lt))

-- the values of the first variables stand, and those of the rest follow
pub record Choosing (vs : List (List Interval)) (cs : List ℕ) (k : ℕ) (values : List ℤ) : Type 0 where
  pub so_far : values ++ chosen (drop k vs) (drop k cs) ≡ chosen vs cs

pub none_chosen : (vs : List (List Interval)) (cs : List ℕ) → Choosing vs cs 0 []
none_chosen vs cs = record { so_far = refl }

module _ (vs : List (List Interval)) (cs : List ℕ) (k : ℕ) (values : List ℤ) where
  next : (d : List Interval) → k < length vs → k < length cs
      → chosen (drop k vs) (drop k cs) ≡ value_in (get_or vs k d) (get_or cs k 0) ∷ chosen (drop (k + 1) vs) (drop (k + 1) cs)
  next d one two =
      ap (λ z. chosen z (drop k cs)) (drop-cons vs k d one) ∙ ap (λ z. chosen (get_or vs k d ∷ drop (suc k) vs) z) (drop-cons cs k 0 two)
      ∙ ap (λ n. value_in (get_or vs k d) (get_or cs k 0) ∷ chosen (drop n vs) (drop n cs)) (sym (add-one k))

  pub one_chosen : (d : List Interval) (more : List ℤ) (z : ℤ) → k < length vs → k < length cs → z ≡ value_in (get_or vs k d) (get_or cs k 0)
      → more ≡ values ++ z ∷ [] → Choosing vs cs k values → Choosing vs cs (k + 1) more
  one_chosen d more z one two at e h =
      let rest = chosen (drop (k + 1) vs) (drop (k + 1) cs) in
      record {
        so_far =
            ap (λ l. l ++ rest) e ∙ append_assoc values (z ∷ []) rest ∙ ap (λ y. values ++ y ∷ rest) at
            ∙ ap (λ l. values ++ l) (sym (next d one two)) ∙ h.so_far;
      }

  pub all_chosen : length vs ≤ k → Choosing vs cs k values → values ≡ chosen vs cs
  all_chosen le h = sym (append-nil values) ∙ ap (λ z. values ++ chosen z (drop k cs)) (sym (drop_all k vs le)) ∙ h.so_far
