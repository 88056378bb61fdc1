-- The lines of intervals, one after another.
use Rattle.std.proofs.Common.{◌≡◌, ◌<◌, ◌≤◌, ◌+◌, ℕ, suc, List, ◌∷◌, ◌++◌, length, drop, drop-cons, get_or, append_assoc, append-nil, sym, ap, ◌∙◌, arith}
use Rattle.std.proofs.lemmas.List.{drop_all}
use Rattle.first_front.specs.declared.interval.Interval.{Interval}
use Rattle.lab_tune.specs.Text.{choice_line, choice_lines}

pub next_choice : (runs : ℕ) (is : List Interval) (i : ℕ) (none : Interval) (now new all : List ℕ) → i < length is →
    new ≡ now ++ choice_line runs (get_or is i none) → now ++ choice_lines runs (drop i is) ≡ all → new ++ choice_lines runs (drop (i + 1) is) ≡ all
next_choice runs is i none now new all lt e h =
    let x = get_or is i none in
    let next : suc i ≡ i + 1 = omega arith in
    let from : drop i is ≡ x ∷ drop (i + 1) is = drop-cons is i none lt ∙ ap (λ z. x ∷ drop z is) next in
    ap (λ z. z ++ choice_lines runs (drop (i + 1) is)) e ∙ (append_assoc now (choice_line runs x) (choice_lines runs (drop (i + 1) is))
    ∙ (ap (λ z. now ++ choice_lines runs z) (sym from) ∙ h))

pub all_choices : (runs : ℕ) (is : List Interval) (i : ℕ) (now all : List ℕ) → length is ≤ i → now ++ choice_lines runs (drop i is) ≡ all → now ≡ all
all_choices runs is i now all le h = sym (append-nil now) ∙ (ap (λ z. now ++ choice_lines runs z) (sym (drop_all i is le)) ∙ h)
