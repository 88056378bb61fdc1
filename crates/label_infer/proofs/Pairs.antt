-- The labels of one command that has parts, and of the rest of its list.
use Rattle.std.proofs.Common.{◌≡◌, ℕ, sym, ap, ◌∙◌, List, [], ◌∷◌, ◌++◌, append_assoc, Option}
use Rattle.label_lattice.specs.Lattice.{Lattice}
use Rattle.label_lattice.specs.declared.label.Label.{Label}
use Rattle.mit_syntax.specs.Expression.{Expression}
use Rattle.mit_syntax.specs.Todo.{If, While, Mitigate}
use Rattle.mit_syntax.specs.Plan.{Written, Plan}
use Rattle.timing_types.specs.Typing.{label_of, index_label}
use Rattle.label_infer.specs.Given.{own_pair, own_pairs}

module _ (lat : Lattice) (g : ℕ → ℕ) where
  abbrev C : Plan → ℕ → List (Label × Label)
  C = own_pairs lat g

  -- the labels of the command itself
  own_is : (o : Option (Label × Label)) (e : Expression) (pc li h : ℕ) (m : Label × Label) (u x : List (Label × Label)) →
      li ≡ index_label lat g e → h ≡ lat.join pc li → m ≡ own_pair o h → u ≡ x ++ m ∷ [] → u ≡ x ++ own_pair o (lat.join pc (index_label lat g e)) ∷ []
  own_is o e pc li h m u x hl hh hm hu =
      hu ∙ ap (λ z. x ++ z ∷ []) (hm ∙ ap (own_pair o) (hh ∙ ap (lat.join pc) hl))

  pub if_pairs : (w : Written) (e : Expression) (q a b rest : Plan) (pc le inner li h : ℕ) (m : Label × Label) (x u y z : List (Label × Label))
      → q ≡ If w e a b rest →
      le ≡ label_of lat g e → inner ≡ lat.join pc le → li ≡ index_label lat g e → h ≡ lat.join pc li → m ≡ own_pair w.labels h → u ≡ x ++ m ∷ [] →
      y ≡ u ++ C a inner → z ≡ y ++ C b inner → x ++ C q pc ≡ z ++ C rest pc
  if_pairs w e q a b rest pc le inner li h m x u y z hq hl hi hli hh hm hu hy hz =
      let i : inner ≡ lat.join pc (label_of lat g e) = hi ∙ ap (lat.join pc) hl in
      let own = own_pair w.labels (lat.join pc (index_label lat g e)) in
      let hu2 = own_is w.labels e pc li h m u x hli hh hm hu in
      ap (λ v. x ++ C v pc) hq
      ∙ ap (λ v. x ++ own ∷ (C a v ++ (C b v ++ C rest pc))) (sym i)
      ∙ sym (append_assoc x (own ∷ []) (C a inner ++ (C b inner ++ C rest pc)))
      ∙ ap (λ v. v ++ (C a inner ++ (C b inner ++ C rest pc))) (sym hu2)
      ∙ sym (append_assoc u (C a inner) (C b inner ++ C rest pc))
      ∙ ap (λ v. v ++ (C b inner ++ C rest pc)) (sym hy)
      ∙ sym (append_assoc y (C b inner) (C rest pc))
      ∙ ap (λ v. v ++ C rest pc) (sym hz)

  pub while_pairs : (w : Written) (e : Expression) (q a rest : Plan) (pc le inner li h : ℕ) (m : Label × Label) (x u y : List (Label × Label))
      → q ≡ While w e a rest →
      le ≡ label_of lat g e → inner ≡ lat.join pc le → li ≡ index_label lat g e → h ≡ lat.join pc li → m ≡ own_pair w.labels h → u ≡ x ++ m ∷ [] →
      y ≡ u ++ C a inner → x ++ C q pc ≡ y ++ C rest pc
  while_pairs w e q a rest pc le inner li h m x u y hq hl hi hli hh hm hu hy =
      let i : inner ≡ lat.join pc (label_of lat g e) = hi ∙ ap (lat.join pc) hl in
      let own = own_pair w.labels (lat.join pc (index_label lat g e)) in
      let hu2 = own_is w.labels e pc li h m u x hli hh hm hu in
      ap (λ v. x ++ C v pc) hq
      ∙ ap (λ v. x ++ own ∷ (C a v ++ C rest pc)) (sym i)
      ∙ sym (append_assoc x (own ∷ []) (C a inner ++ C rest pc))
      ∙ ap (λ v. v ++ (C a inner ++ C rest pc)) (sym hu2)
      ∙ sym (append_assoc u (C a inner) (C rest pc))
      ∙ ap (λ v. v ++ C rest pc) (sym hy)

  pub mitigate_pairs : (w : Written) (k : ℕ) (l : Option Label) (e : Expression) (q a rest : Plan) (pc li h : ℕ) (m : Label × Label)
      (x u y : List (Label × Label)) → q ≡ Mitigate w k l e a rest →
      li ≡ index_label lat g e → h ≡ lat.join pc li → m ≡ own_pair w.labels h → u ≡ x ++ m ∷ [] → y ≡ u ++ C a pc → x ++ C q pc ≡ y ++ C rest pc
  mitigate_pairs w k l e q a rest pc li h m x u y hq hli hh hm hu hy =
      let own = own_pair w.labels (lat.join pc (index_label lat g e)) in
      let hu2 = own_is w.labels e pc li h m u x hli hh hm hu in
      ap (λ v. x ++ C v pc) hq
      ∙ sym (append_assoc x (own ∷ []) (C a pc ++ C rest pc))
      ∙ ap (λ v. v ++ (C a pc ++ C rest pc)) (sym hu2)
      ∙ sym (append_assoc u (C a pc) (C rest pc))
      ∙ ap (λ v. v ++ C rest pc) (sym hy)
