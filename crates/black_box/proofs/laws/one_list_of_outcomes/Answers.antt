use Rattle.std.proofs.Common.{◌≡◌, ℕ, List, [], ◌∷◌, refl, sym, ap, ◌∙◌}
use Rattle.std.specs.List.{AllZip}
use Rattle.black_box.specs.Schedule.{begun_epochs}
use Rattle.black_box.specs.Outcomes.{Outcome, IsOutcome}
use Rattle.black_box.proofs.laws.one_list_of_outcomes.Goals as goal

one_outcome : (q t : ℕ) (ready : List ℕ) (a b : Outcome) → IsOutcome q t ready a → IsOutcome q t ready b → a ≡ b
one_outcome q t ready a b h k =
    let at : a.at ≡ b.at = k.only a.at h.schedule in
    let epochs : a.epochs ≡ b.epochs = h.epochs ∙ (ap (begun_epochs q t) at ∙ sym k.epochs) in
    ap (λ z. let o : Outcome = record { at = z; epochs = a.epochs } in o) at ∙ ap (λ z. let o : Outcome = record { at = b.at; epochs = z } in o) epochs

all_same : (q t : ℕ) (runs : List (List ℕ)) (xs ys : List Outcome) → AllZip (IsOutcome q t) runs xs → AllZip (IsOutcome q t) runs ys → xs ≡ ys
all_same q t [] [] [] h k = refl
all_same q t [] (x ∷ xs) ys h k = absurd h
all_same q t [] [] (y ∷ ys) h k = absurd k
all_same q t (r ∷ runs) [] ys h k = absurd h
all_same q t (r ∷ runs) (x ∷ xs) [] h k = absurd k
all_same q t (r ∷ runs) (x ∷ xs) (y ∷ ys) h k = ap (λ z. z ∷ xs) (one_outcome q t r x y h.0 k.0) ∙ ap (λ z. y ∷ z) (all_same q t runs xs ys h.1 k.1)

pub returns : goal.returns
returns c = all_same
