-- The estimates of the mitigates in one command and in the rest of its list.
use Rattle.std.proofs.Common.{◌≡◌, ℕ, sym, ap, ◌∙◌, List, [], ◌∷◌, ◌++◌, append_assoc, Option, map}
use Rattle.std.proofs.lemmas.List.{map-append}
use Rattle.label_lattice.specs.declared.label.Label.{Label}
use Rattle.mit_syntax.specs.Expression.{Expression}
use Rattle.mit_syntax.specs.Todo.{If, While, Mitigate}
use Rattle.mit_syntax.specs.Plan.{Written, Plan}
use Rattle.level_counts.specs.Estimates.{estimates_of}

pub if_estimates : (w : Written) (e : Expression) (q a b rest : Plan) (x y z : List Expression) → q ≡ If w e a b rest → y ≡ x ++ estimates_of a
    → z ≡ y ++ estimates_of b → x ++ estimates_of q ≡ z ++ estimates_of rest
if_estimates w e q a b rest x y z hq hy hz =
    ap (λ u. x ++ estimates_of u) hq
    ∙ sym (append_assoc x (estimates_of a) (estimates_of b ++ estimates_of rest))
    ∙ ap (λ u. u ++ (estimates_of b ++ estimates_of rest)) (sym hy)
    ∙ sym (append_assoc y (estimates_of b) (estimates_of rest))
    ∙ ap (λ u. u ++ estimates_of rest) (sym hz)

pub while_estimates : (w : Written) (e : Expression) (q a rest : Plan) (x y : List Expression) → q ≡ While w e a rest → y ≡ x ++ estimates_of a
    → x ++ estimates_of q ≡ y ++ estimates_of rest
while_estimates w e q a rest x y hq hy =
    ap (λ u. x ++ estimates_of u) hq
    ∙ sym (append_assoc x (estimates_of a) (estimates_of rest))
    ∙ ap (λ u. u ++ estimates_of rest) (sym hy)

pub mitigate_estimates : {X : Type 0} (f : X → Expression) (i : X) (w : Written) (k : ℕ) (l : Option Label) (q a rest : Plan) (x y : List X)
    (z : List Expression) → q ≡ Mitigate w k l (f i) a rest →
    y ≡ x ++ i ∷ [] → z ≡ map f y ++ estimates_of a → map f x ++ estimates_of q ≡ z ++ estimates_of rest
mitigate_estimates f i w k l q a rest x y z hq hy hz =
    let m : map f y ≡ map f x ++ f i ∷ [] = ap (map f) hy ∙ map-append f x (i ∷ []) in
    ap (λ u. map f x ++ estimates_of u) hq
    ∙ sym (append_assoc (map f x) (f i ∷ []) (estimates_of a ++ estimates_of rest))
    ∙ ap (λ u. u ++ (estimates_of a ++ estimates_of rest)) (sym m)
    ∙ sym (append_assoc (map f y) (estimates_of a) (estimates_of rest))
    ∙ ap (λ u. u ++ estimates_of rest) (sym hz)
