-- Names that are told one after the other.
use Rattle.std.proofs.Common.{[], ◌≡◌, ◌∙◌, sym, ap, ℕ, ◌+◌, List, ◌∷◌, ◌++◌, append_assoc, codes, drop, get_or, map, Some}
use Rattle.std.specs.Prelude.{slice_get}
use Rattle.std.proofs.lemmas.List.{drop_more}
use Rattle.std.proofs.lemmas.Option.{same_Some, slice_get_within, slice_get-get_or}
use Rattle.mit_syntax.specs.Declarations.{Declaration}
use Rattle.lab_texts.specs.Names.{after_blanks}

drop_there : (ds : List Declaration) (k : ℕ) (d : Declaration) → slice_get ds k ≡ Some d → drop k ds ≡ d ∷ drop (k + 1) ds
drop_there ds k d e =
    let within = slice_get_within ds k d e in
    drop_more ds k d within
    ∙ ap (λ (z : Declaration). z ∷ drop (k + 1) ds) (same_Some (get_or ds k d) d (sym (slice_get-get_or ds k d within) ∙ e))

-- one declared name more
pub name_step : (ds : List Declaration) (k : ℕ) (d : Declaration) (name out mid new total : List ℕ) → slice_get ds k ≡ Some d
    → name ≡ d.0 → mid ≡ out ++ codes " " → new ≡ mid ++ name → out ++ after_blanks (map (λ (x : Declaration). x.0) (drop k ds)) ≡ total
    → new ++ after_blanks (map (λ (x : Declaration). x.0) (drop (k + 1) ds)) ≡ total
name_step ds k d name out mid new total at named blank put now =
    let rest = after_blanks (map (λ (x : Declaration). x.0) (drop (k + 1) ds)) in
    let step : after_blanks (map (λ (x : Declaration). x.0) (drop k ds)) ≡ codes " " ++ (d.0 ++ rest) =
    ap (λ (z : List Declaration). after_blanks (map (λ (x : Declaration). x.0) z)) (drop_there ds k d at) in
    ap (λ (z : List ℕ). z ++ rest) (put ∙ ap (λ (z : List ℕ). z ++ name) blank ∙ append_assoc out (codes " ") name)
    ∙ append_assoc out (codes " " ++ name) rest
    ∙ ap (λ (z : List ℕ). out ++ z) (append_assoc (codes " ") name rest ∙ ap (λ (z : List ℕ). codes " " ++ (z ++ rest)) named ∙ sym step)
    ∙ now

-- four pieces, put one after the other
pub four_put : (a b c d s t u v w : List ℕ) → s ≡ [] → t ≡ s ++ a → u ≡ t ++ b → v ≡ u ++ c → w ≡ v ++ d → w ≡ a ++ (b ++ (c ++ d))
four_put a b c d s t u v w none first second third fourth =
    let three : v ≡ (a ++ b) ++ c =
    third ∙ ap (λ (z : List ℕ). z ++ c) (second ∙ ap (λ (z : List ℕ). z ++ b) (first ∙ ap (λ (z : List ℕ). z ++ a) none)) in
    fourth ∙ ap (λ (z : List ℕ). z ++ d) three ∙ append_assoc (a ++ b) c d ∙ append_assoc a b (c ++ d)
