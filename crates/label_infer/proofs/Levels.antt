-- The levels in one command and in the rest of its list.
use Rattle.std.proofs.Common.{◌≡◌, ℕ, sym, ap, ◌∙◌, List, [], ◌∷◌, ◌++◌, append_assoc, map, Option}
use Rattle.std.proofs.lemmas.List.{map-append}
use Rattle.label_lattice.specs.declared.label.Label.{Label}
use Rattle.mit_syntax.specs.Expression.{Expression}
use Rattle.mit_syntax.specs.Todo.{If, While, Mitigate}
use Rattle.mit_syntax.specs.Plan.{Written, Plan}
use Rattle.label_infer.specs.Given.{written_levels}
use Rattle.label_infer.specs.First.{first_of, first_levels}

module _ (b : ℕ) where
  abbrev M : List (Option Label) → List Label
  M = map (first_of b)

  abbrev F : Plan → List Label
  F = first_levels b

  pub if_levels : (w : Written) (e : Expression) (q a c rest : Plan) (x y z : List Label) → q ≡ If w e a c rest → y ≡ x ++ F a
      → z ≡ y ++ F c → x ++ F q ≡ z ++ F rest
  if_levels w e q a c rest x y z hq hy hz =
      ap (λ u. x ++ F u) hq
      ∙ ap (λ u. x ++ u) (map-append (first_of b) (written_levels a) (written_levels c ++ written_levels rest))
      ∙ ap (λ u. x ++ (F a ++ u)) (map-append (first_of b) (written_levels c) (written_levels rest))
      ∙ sym (append_assoc x (F a) (F c ++ F rest)) ∙ ap (λ u. u ++ (F c ++ F rest)) (sym hy) ∙ sym (append_assoc y (F c) (F rest))
      ∙ ap (λ u. u ++ F rest) (sym hz)

  pub while_levels : (w : Written) (e : Expression) (q a rest : Plan) (x y : List Label) → q ≡ While w e a rest → y ≡ x ++ F a → x ++ F q ≡ y ++ F rest
  while_levels w e q a rest x y hq hy =
      ap (λ u. x ++ F u) hq
      ∙ ap (λ u. x ++ u) (map-append (first_of b) (written_levels a) (written_levels rest))
      ∙ sym (append_assoc x (F a) (F rest)) ∙ ap (λ u. u ++ F rest) (sym hy)

  pub mitigate_levels : (w : Written) (k : ℕ) (l : Option Label) (e : Expression) (q a rest : Plan) (m : Label) (x y z : List Label)
      → q ≡ Mitigate w k l e a rest → m ≡ first_of b l → y ≡ x ++ m ∷ [] → z ≡ y ++ F a → x ++ F q ≡ z ++ F rest
  mitigate_levels w k l e q a rest m x y z hq hm hy hz =
      ap (λ u. x ++ F u) hq
      ∙ ap (λ u. x ++ first_of b l ∷ u) (map-append (first_of b) (written_levels a) (written_levels rest))
      ∙ ap (λ u. x ++ u ∷ (F a ++ F rest)) (sym hm)
      ∙ sym (append_assoc x (m ∷ []) (F a ++ F rest)) ∙ ap (λ u. u ++ (F a ++ F rest)) (sym hy) ∙ sym (append_assoc y (F a) (F rest))
      ∙ ap (λ u. u ++ F rest) (sym hz)
