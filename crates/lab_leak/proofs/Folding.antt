-- The classes of runs, one run more at a time.
use Rattle.std.proofs.Common.{◌≡◌, ◌+◌, ℕ, List, [], ◌∷◌, ◌++◌, length, map, refl, sym, ap, ◌∙◌, arith, append_assoc, append-nil, length-append}
use Rattle.std.proofs.lemmas.List.{length-map}
use Rattle.label_code.specs.Machine.{Event}
use Rattle.leak_classes.specs.Classes.{Classes, classes_shown, no_classes, with_start}
use Rattle.leak_classes.proofs.Walked.{one_more}
use Rattle.lab_leak.specs.Classes.{classes_of_runs}

-- these classes after the runs that show these sequences, the first of which has the number n, from 0; each has weight 1
abbrev pub classes_from : Classes → ℕ → List (List Event) → Classes
classes_from k n [] = k
classes_from k n (z ∷ zs) = classes_from (with_start k n z 1) (n + 1) zs

abbrev light : List (List Event) → List (List Event × ℕ)
light zs = map (λ z. (z, 1)) zs

light_end : (zs : List (List Event)) (z : List Event) → light zs ++ (z, 1) ∷ [] ≡ light (zs ++ z ∷ [])
light_end [] z = refl
light_end (y ∷ zs) z = ap (λ r. (y, 1) ∷ r) (light_end zs z)

folded_from : (ys zs : List (List Event)) (n : ℕ) → n ≡ length ys → classes_from (classes_of_runs ys) n zs ≡ classes_of_runs (ys ++ zs)
folded_from ys [] n e = ap classes_of_runs (sym (append-nil ys))
folded_from ys (z ∷ zs) n e =
    let long : length (light ys) ≡ length ys = length-map ys (λ z. (z, 1)) in
    let after = length-append ys (z ∷ []) in
    ap (λ k. classes_from k (n + 1) zs) (one_more 0 n (light ys) z 1 (omega (arith, e, long)) ∙ ap (classes_shown 0) (light_end ys z))
    ∙ folded_from (ys ++ z ∷ []) zs (n + 1) (omega (arith, e, after)) ∙ ap classes_of_runs (append_assoc ys (z ∷ []) zs)

pub folded : (zs : List (List Event)) → classes_from no_classes 0 zs ≡ classes_of_runs zs
folded zs = folded_from [] zs 0 refl
