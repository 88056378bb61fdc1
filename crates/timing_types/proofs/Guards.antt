-- The program-counter labels of the mitigates in one command and in the rest of its list.
use Rattle.std.proofs.Common.{◌≡◌, ℕ, sym, ap, ◌∙◌, List, [], ◌∷◌, ◌++◌, append_assoc, Option}
use Rattle.label_lattice.specs.Lattice.{Lattice}
use Rattle.label_lattice.specs.declared.label.Label.{Label}
use Rattle.mit_syntax.specs.Expression.{Expression}
use Rattle.mit_syntax.specs.Todo.{If, While, Mitigate}
use Rattle.mit_syntax.specs.Plan.{Written, Plan}
use Rattle.timing_types.specs.Typing.{label_of}
use Rattle.timing_types.specs.Contexts.{contexts}

module _ (lat : Lattice) (g : ℕ → ℕ) where
  abbrev C : Plan → ℕ → List Label
  C = contexts lat g

  pub if_contexts : (w : Written) (e : Expression) (q a b rest : Plan) (pc le inner : ℕ) (x y z : List Label) → q ≡ If w e a b rest
      → le ≡ label_of lat g e → inner ≡ lat.join pc le →
      y ≡ x ++ C a inner → z ≡ y ++ C b inner → x ++ C q pc ≡ z ++ C rest pc
  if_contexts w e q a b rest pc le inner x y z hq hl hi hy hz =
      let i : inner ≡ lat.join pc (label_of lat g e) = hi ∙ ap (lat.join pc) hl in
      ap (λ u. x ++ C u pc) hq
      ∙ ap (λ u. x ++ (C a u ++ (C b u ++ C rest pc))) (sym i)
      ∙ sym (append_assoc x (C a inner) (C b inner ++ C rest pc))
      ∙ ap (λ u. u ++ (C b inner ++ C rest pc)) (sym hy)
      ∙ sym (append_assoc y (C b inner) (C rest pc))
      ∙ ap (λ u. u ++ C rest pc) (sym hz)

  pub while_contexts : (w : Written) (e : Expression) (q a rest : Plan) (pc le inner : ℕ) (x y : List Label) → q ≡ While w e a rest
      → le ≡ label_of lat g e → inner ≡ lat.join pc le →
      y ≡ x ++ C a inner → x ++ C q pc ≡ y ++ C rest pc
  while_contexts w e q a rest pc le inner x y hq hl hi hy =
      let i : inner ≡ lat.join pc (label_of lat g e) = hi ∙ ap (lat.join pc) hl in
      ap (λ u. x ++ C u pc) hq
      ∙ ap (λ u. x ++ (C a u ++ C rest pc)) (sym i)
      ∙ sym (append_assoc x (C a inner) (C rest pc))
      ∙ ap (λ u. u ++ C rest pc) (sym hy)

  pub mitigate_contexts : (w : Written) (k : ℕ) (l : Option Label) (e : Expression) (q a rest : Plan) (pc : Label) (x y z : List Label)
      → q ≡ Mitigate w k l e a rest →
      y ≡ x ++ pc ∷ [] → z ≡ y ++ C a pc.number → x ++ C q pc.number ≡ z ++ C rest pc.number
  mitigate_contexts w k l e q a rest pc x y z hq hy hz =
      ap (λ u. x ++ C u pc.number) hq
      ∙ sym (append_assoc x (pc ∷ []) (C a pc.number ++ C rest pc.number))
      ∙ ap (λ u. u ++ (C a pc.number ++ C rest pc.number)) (sym hy)
      ∙ sym (append_assoc y (C a pc.number) (C rest pc.number))
      ∙ ap (λ u. u ++ C rest pc.number) (sym hz)
