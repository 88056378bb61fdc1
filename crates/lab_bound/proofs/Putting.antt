-- Lines, one after another.
use Rattle.std.proofs.Common.{◌≡◌, ◌<◌, ◌≤◌, ◌^◌, ℕ, ◌+◌, List, [], ◌∷◌, ◌++◌, length, append_assoc, append-nil, refl, sym, ap, ◌∙◌, subst, drop, drop-cons}
use Rattle.std.proofs.Common.{add-one, Option, Some, codes, inl, inr}
use Rattle.std.specs.Prelude.{cond, ℤ}
use Rattle.std.proofs.lemmas.List.{drop_all}
use Rattle.label_lattice.specs.Order.{Order, lattice_of}
use Rattle.sharp_count.specs.declared.count.LevelRuns.{LevelRuns}
use Rattle.sharp_count.specs.Count.{fitting}
use Rattle.sharp_count.specs.Levels.{told_of}
use Rattle.sharp_count.specs.Shared.{shared_of}
use Rattle.timing_types.specs.Labelled.{LabelledProgram}
use Rattle.own_firsts.specs.Count.{own_of}
use Rattle.level_counts.specs.Listed.{AreListed}
use Rattle.lab_bound.specs.Text.{level_line, level_lines, number_text, shared_line, own_line, AreApart, sharp_of}
use Rattle.lab_bound.specs.Text.{IsSharpText, IsOwnText, SharpPut, BoundPut, SharedPut, TextPut}

-- the lines of the levels before the i-th stand after a text
pub record LevelsPut (order : Order) (o t : ℕ) (levels : List LevelRuns) (old : List ℕ) (i : ℕ) (now : List ℕ) : Type 0 where
  pub is : now ++ level_lines order o t i (drop i levels) ≡ old ++ level_lines order o t 0 levels

module _ (order : Order) (o t : ℕ) (levels : List LevelRuns) (old : List ℕ) where
  pub none_put : LevelsPut order o t levels old 0 old
  none_put = record { is = refl }

  next_lines : (i : ℕ) → i < length levels →
      level_lines order o t i (drop i levels) ≡ cond ((lattice_of order).flows i o) [] (level_line order t i (told_of levels i))
      ++ level_lines order o t (i + 1) (drop (i + 1) levels)
  next_lines i lt =
      ap (level_lines order o t i) (drop-cons levels i (record { mitigations = 0; first = 0 }) lt
      ∙ ap (λ n. told_of levels i ∷ drop n levels) (sym (add-one i)))

  -- one level more
  pub next_put : (i l : ℕ) (now new : List ℕ) → i < length levels → l ≡ i → LevelsPut order o t levels old i now →
      new ≡ now ++ cond ((lattice_of order).flows l o) [] (level_line order t l (told_of levels i)) → LevelsPut order o t levels old (i + 1) new
  next_put i l now new lt same h e =
      let line = cond ((lattice_of order).flows i o) [] (level_line order t i (told_of levels i)) in
      let rest = level_lines order o t (i + 1) (drop (i + 1) levels) in
      let here : new ≡ now ++ line = e ∙ ap (λ z. now ++ cond ((lattice_of order).flows z o) [] (level_line order t z (told_of levels i))) same in
      record { is = ap (λ z. z ++ rest) here ∙ append_assoc now line rest ∙ ap (λ z. now ++ z) (sym (next_lines i lt)) ∙ h.is }

  pub all_put : (i : ℕ) (now : List ℕ) → length levels ≤ i → LevelsPut order o t levels old i now → now ≡ old ++ level_lines order o t 0 levels
  all_put i now le h = sym (append-nil now) ∙ ap (λ z. now ++ level_lines order o t i z) (sym (drop_all i levels le)) ∙ h.is

-- the three lines of a count that is told
pub count_put : (count : Option ℕ) (n b : ℕ) (old x y new : List ℕ) → count ≡ Some n → n ≤ 2 ^ b → ((c : ℕ) → n ≤ 2 ^ c → b ≤ c) →
    x ≡ old ++ (number_text (codes "sharp ") n ++ codes "\n") → y ≡ x ++ (number_text (codes "bits ") b ++ codes "\n")
    → new ≡ y ++ (number_text (codes "guess at most ") n ++ codes " times as often\n") → SharpPut count old new
count_put count n b old x y new is enough least e f g =
    let one = number_text (codes "sharp ") n ++ codes "\n" in
    let two = number_text (codes "bits ") b ++ codes "\n" in
    let three = number_text (codes "guess at most ") n ++ codes " times as often\n" in
    subst (λ z. SharpPut z old new) (sym is) (
      one ++ (two ++ three),
      (b, record { enough = enough; least = least }, refl),
      g ∙ ap (λ z. z ++ three) (f ∙ ap (λ z. z ++ two) e) ∙ ap (λ z. z ++ three) (append_assoc old one two) ∙ append_assoc old (one ++ two) three
          ∙ ap (λ z. old ++ z) (append_assoc one two three),
    )

-- the lines of the levels, and then those of the count
pub bound_put : (order : Order) (o t : ℕ) (levels : List LevelRuns) (old x new : List ℕ) (count : Option ℕ) → x ≡ old ++ level_lines order o t 0 levels
    → count ≡ fitting (sharp_of t levels) → SharpPut count x new → BoundPut order o t levels old new
bound_put order o t levels old x new count e is put =
    let rest = put.0 in (
      level_lines order o t 0 levels ++ rest,
      (rest, subst (λ z. IsSharpText z rest) is put.1, refl),
      put.2 ∙ ap (λ z. z ++ rest) e ∙ append_assoc old (level_lines order o t 0 levels) rest,
    )

-- the line of the count by shared time, or none
pub shared_put : (q : LabelledProgram) (o t : ℕ) (levels : List LevelRuns) (old new : List ℕ) (count : Option ℕ) → AreApart q o →
    count ≡ fitting (shared_of t levels) → new ≡ old ++ shared_line count → SharedPut q o t levels old new
shared_put q o t levels old new count apart e is = (shared_line count, inl (apart, ap shared_line e), is)

pub nothing_put : (q : LabelledProgram) (o t : ℕ) (levels : List LevelRuns) (old : List ℕ) → (AreApart q o → ⊥) → SharedPut q o t levels old old
nothing_put q o t levels old none = ([], inr (none, refl), sym (append-nil old))

-- the line of the count by own first predictions, or none
pub own_put : (q : LabelledProgram) (o t : ℕ) (ms : List (List ℤ)) (old new : List ℕ) → AreApart q o →
    (firsts : List (List ℕ)) × AreListed q o ms firsts × (new ≡ old ++ own_line (fitting (own_of t firsts))) → TextPut (IsOwnText q o t ms) old new
own_put q o t ms old new apart h = (own_line (fitting (own_of t h.0)), inl (apart, h.0, h.1, refl), h.2)

pub no_own_put : (q : LabelledProgram) (o t : ℕ) (ms : List (List ℤ)) (old : List ℕ) → (AreApart q o → ⊥) → TextPut (IsOwnText q o t ms) old old
no_own_put q o t ms old none = ([], inr (none, refl), sym (append-nil old))
