-- Texts that are written piece by piece, and the names that are near.
use Rattle.std.proofs.Common.{◌≡◌, ◌∙◌, sym, ap, ℕ, ◌+◌, List, ◌∷◌, ◌++◌, append_assoc, Bool, drop, get_or, Some}
use Rattle.std.specs.Prelude.{slice_get}
use Rattle.std.proofs.lemmas.List.{drop_more}
use Rattle.std.proofs.lemmas.Option.{same_Some, slice_get_within, slice_get-get_or}
use Rattle.mit_syntax.specs.Declarations.{Declaration}
use Rattle.fault_print.specs.Names.{is_near, listed}
use Rattle.start_faults.specs.Names.{near_names}

pub then_two : (x₀ x₁ x₂ a b : List ℕ) → x₁ ≡ x₀ ++ a → x₂ ≡ x₁ ++ b → x₂ ≡ x₀ ++ (a ++ b)
then_two x₀ x₁ x₂ a b e f = f ∙ ap (λ (l : List ℕ). l ++ b) e ∙ append_assoc x₀ a b

pub then_three : (x₀ x₁ x₂ x₃ a b c : List ℕ) → x₁ ≡ x₀ ++ a → x₂ ≡ x₁ ++ b → x₃ ≡ x₂ ++ c → x₃ ≡ x₀ ++ (a ++ (b ++ c))
then_three x₀ x₁ x₂ x₃ a b c e f g =
    g ∙ ap (λ (l : List ℕ). l ++ c) (then_two x₀ x₁ x₂ a b e f) ∙ append_assoc x₀ (a ++ b) c ∙ ap (λ (l : List ℕ). x₀ ++ l) (append_assoc a b c)

drop_there : (ds : List Declaration) (k : ℕ) (d : Declaration) → slice_get ds k ≡ Some d → drop k ds ≡ d ∷ drop (k + 1) ds
drop_there ds k d e =
    let within = slice_get_within ds k d e in
    drop_more ds k d within
    ∙ ap (λ (z : Declaration). z ∷ drop (k + 1) ds) (same_Some (get_or ds k d) d (sym (slice_get-get_or ds k d within) ∙ e))

-- one declared name more
pub near_step : (ds : List Declaration) (k : ℕ) (d : Declaration) (w name : List ℕ) (is : Bool) (out new total : List ℕ) → slice_get ds k ≡ Some d
    → name ≡ d.0 → is ≡ is_near w name → new ≡ out ++ listed is name → out ++ near_names w (drop k ds) ≡ total
    → new ++ near_names w (drop (k + 1) ds) ≡ total
near_step ds k d w name is out new total at named near put now =
    let here : listed is name ≡ listed (is_near w d.0) d.0 =
    ap (λ (z : Bool). listed z name) near ∙ ap (λ (z : List ℕ). listed (is_near w z) z) named in
    let step : near_names w (drop k ds) ≡ listed is name ++ near_names w (drop (k + 1) ds) =
    ap (near_names w) (drop_there ds k d at) ∙ ap (λ (z : List ℕ). z ++ near_names w (drop (k + 1) ds)) (sym here) in
    ap (λ (z : List ℕ). z ++ near_names w (drop (k + 1) ds)) put ∙ append_assoc out (listed is name) (near_names w (drop (k + 1) ds))
    ∙ ap (λ (z : List ℕ). out ++ z) (sym step) ∙ now
