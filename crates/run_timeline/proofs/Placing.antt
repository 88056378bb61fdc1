-- The places of the mitigates in one command and in the rest of its list.
use Rattle.std.proofs.Common.{◌≡◌, ℕ, ◌+◌, sym, ap, ◌∙◌, List, [], ◌∷◌, ◌++◌, length, append_assoc, Option, arith}
use Rattle.std.proofs.lemmas.List.{length-append}
use Rattle.text_base.specs.declared.pos.Pos.{Pos}
use Rattle.label_lattice.specs.declared.label.Label.{Label}
use Rattle.mit_syntax.specs.Expression.{Expression}
use Rattle.mit_syntax.specs.Todo.{Todo, Done, Skip, Assign, Put, Sleep, If, While, Mitigate}
use Rattle.mit_syntax.specs.Plan.{Written, Plan, mitigates}
use Rattle.run_timeline.specs.Places.{places}

pub if_places : (w : Written) (e : Expression) (q a b rest : Plan) (x y z : List Pos) → q ≡ If w e a b rest → y ≡ x ++ places a → z ≡ y ++ places b
    → x ++ places q ≡ z ++ places rest
if_places w e q a b rest x y z hq hy hz =
    ap (λ u. x ++ places u) hq
    ∙ sym (append_assoc x (places a) (places b ++ places rest))
    ∙ ap (λ u. u ++ (places b ++ places rest)) (sym hy)
    ∙ sym (append_assoc y (places b) (places rest))
    ∙ ap (λ u. u ++ places rest) (sym hz)

pub while_places : (w : Written) (e : Expression) (q a rest : Plan) (x y : List Pos) → q ≡ While w e a rest → y ≡ x ++ places a
    → x ++ places q ≡ y ++ places rest
while_places w e q a rest x y hq hy =
    ap (λ u. x ++ places u) hq
    ∙ sym (append_assoc x (places a) (places rest))
    ∙ ap (λ u. u ++ places rest) (sym hy)

pub mitigate_places : (w : Written) (k : ℕ) (l : Option Label) (e : Expression) (q a rest : Plan) (x y z : List Pos) → q ≡ Mitigate w k l e a rest →
    y ≡ x ++ w.pos ∷ [] → z ≡ y ++ places a → x ++ places q ≡ z ++ places rest
mitigate_places w k l e q a rest x y z hq hy hz =
    ap (λ u. x ++ places u) hq
    ∙ sym (append_assoc x (w.pos ∷ []) (places a ++ places rest))
    ∙ ap (λ u. u ++ (places a ++ places rest)) (sym hy)
    ∙ sym (append_assoc y (places a) (places rest))
    ∙ ap (λ u. u ++ places rest) (sym hz)

-- each mitigate has its place
pub length-places : {L : Type 0} (p : Todo Written L) → length (places p) ≡ mitigates p
length-places Done = omega arith
length-places (Skip m r) = length-places r
length-places (Assign m x e r) = length-places r
length-places (Put m f n i e r) = length-places r
length-places (Sleep m e r) = length-places r
length-places (If m e a b r) =
    let one = length-append (places a) (places b ++ places r) in
    let two = length-append (places b) (places r) in
    omega (arith, one, two, length-places a, length-places b, length-places r)
length-places (While m e c r) = let one = length-append (places c) (places r) in omega (arith, one, length-places c, length-places r)
length-places (Mitigate m k l e c r) = let one = length-append (places c) (places r) in omega (arith, one, length-places c, length-places r)
