-- Passes over commands, put together.
use Rattle.std.proofs.Common.{◌≡◌, ℕ, refl, sym, ap, ◌∙◌, subst, List, [], ◌∷◌, ◌++◌, append_assoc, append-nil}
use Rattle.std.specs.Prelude.{Option, None}
use Rattle.text_base.specs.declared.pos.Pos.{Pos}
use Rattle.label_lattice.specs.declared.label.Label.{Label}
use Rattle.mit_syntax.specs.Expression.{Expression}
use Rattle.mit_syntax.specs.Todo.{Done, If, While, Mitigate}
use Rattle.mit_syntax.specs.Plan.{Written, Plan}
use Rattle.mit_syntax.specs.Program.{Syntax, plan_of}
use Rattle.timing_types.specs.declared.rule.Rule.{Rule}
use Rattle.timing_types.specs.declared.rule.Rule.TheVariants.{Asgn as RAsgn, If as RIf, While as RWhile, Mtg as RMtg}
use Rattle.flow_path.specs.declared.step.Spot.{Spot}
use Rattle.flow_path.specs.declared.step.Spot.TheVariants.{Level as OfLevel}
use Rattle.flow_path.specs.declared.step.How.TheVariants.{UnderGuard}
use Rattle.flow_path.specs.declared.step.Part.{Part}
use Rattle.flow_path.specs.declared.step.Step.{Step}
use Rattle.flow_path.specs.declared.cost.Cost.{Cost}
use Rattle.flow_path.specs.declared.target.Target.{Target}
use Rattle.flow_path.specs.declared.best.Best.{Best}
use Rattle.flow_path.specs.declared.sides.Sides.{Sides}
use Rattle.flow_path.specs.Steps.{reads, index_reads, after, ends, to, to_write_label, steps_by, conditions_of}
use Rattle.flow_path.specs.Distances.{IsBest, AreSides, ComesTo, Passes}
use Rattle.flow_path.proofs.Firsts.{nothing_best}

module _ (s : Syntax) (t : Target) (ds : List (Option Cost)) where
  -- the first of the cheapest parts of a list that is made of another one
  abbrev pub Turns : Option Best → Option Best → (List Part → List Part) → Type 0
  Turns b r f = (T : List Part) → IsBest s t ds T b → IsBest s t ds (f T) r

  abbrev pub TurnsTwo : Option Best → Option Best → Option Best → (List Part → List Part → List Part) → Type 0
  TurnsTwo pc b r f = (P T : List Part) → IsBest s t ds P pc → IsBest s t ds T b → IsBest s t ds (f P T) r

  -- the steps by one more condition
  abbrev pub Gains : Option Best → Sides → Sides → (List Part → List Step) → Type 0
  Gains h v w f = (bs : List (List Step)) (ps : List Part) → IsBest s t ds ps h → AreSides s t ds bs v → AreSides s t ds (bs ++ (f ps ∷ [])) w

  -- ends
  pub comes_none : (b : Option Best) (p : Plan) → ComesTo s t ds b b p p
  comes_none b p T x = (T, x, refl)

  pub comes_then : (b u r : Option Best) (p q o : Plan) → ComesTo s t ds b u p q → ComesTo s t ds u r q o → ComesTo s t ds b r p o
  comes_then b u r p q o h k T x = let a = h T x in let c = k a.0 a.1 in (c.0, c.1, a.2 ∙ c.2)

  pub comes_by : (b r : Option Best) (p q : Plan) (f : List Part → List Part) → Turns b r f
      → ((T : List Part) → ends p T ≡ ends q (f T)) → ComesTo s t ds b r p q
  comes_by b r p q f m e T x = (f T, m T x, e T)

  pub comes_if : (b i one two r : Option Best) (p A B rest : Plan) (w : Written) (e : Expression) → p ≡ If w e A B rest → Turns b i (λ T. after T w e) →
      ComesTo s t ds i one A Done → ComesTo s t ds i two B Done → TurnsTwo one two r (λ xs ys. xs ++ ys) → ComesTo s t ds b r p rest
  comes_if b i one two r p A B rest w e is m ha hb j T x =
      let S = after T w e in
      let hs = m T x in
      let c = ha S hs in
      let d = hb S hs in
      (c.0 ++ d.0, j c.0 d.0 c.1 d.1, ap (λ z. ends z T) is ∙ ap (λ z. ends rest (z ++ ends B S)) c.2 ∙ ap (λ z. ends rest (c.0 ++ z)) d.2)

  pub comes_while : (b i r : Option Best) (p C rest : Plan) (w : Written) (e : Expression) → p ≡ While w e C rest → Turns b i (λ T. after T w e)
      → ComesTo s t ds i r C Done → ComesTo s t ds b r p rest
  comes_while b i r p C rest w e is m h T x = let c = h (after T w e) (m T x) in (c.0, c.1, ap (λ z. ends z T) is ∙ ap (λ z. ends rest z) c.2)

  -- passes
  pub passes_none : (v : Sides) (pc b : Option Best) (p : Plan) → Passes s t ds v v pc b b p p
  passes_none v pc b p P T bs hp ht hv = (T, [], ht, subst (λ z. AreSides s t ds z v) (sym (append-nil bs)) hv, refl, refl)

  pub passes_then : (v w x : Sides) (pc b u r : Option Best) (p q o : Plan) → Passes s t ds v w pc b u p q → Passes s t ds w x pc u r q o
      → Passes s t ds v x pc b r p o
  passes_then v w x pc b u r p q o h k P T bs hp ht hv =
      let a = h P T bs hp ht hv in
      let c = k P a.0 (bs ++ a.1) hp a.2 a.3 in (
        c.0,
        a.1 ++ c.1,
        c.2,
        subst (λ z. AreSides s t ds z x) (append_assoc bs a.1 c.1) c.3,
        a.4 ∙ c.4,
        a.5 ∙ ap (λ z. a.1 ++ z) c.5 ∙ sym (append_assoc a.1 c.1 (steps_by o P c.0)),
      )

  -- a command with a condition on its write label alone
  pub passes_plain : (v w : Sides) (pc b h r : Option Best) (p rest : Plan) (rule : Rule) (q : Pos) (o : Option (Label × Label)) (H R : List Part → List Part) →
      Turns pc h H → Turns b r R → Gains h v w (to_write_label rule q o) →
      ((P T : List Part) → steps_by p P T ≡ to_write_label rule q o (H P) ∷ steps_by rest P (R T)) → ((T : List Part) → ends p T ≡ ends rest (R T))
      → Passes s t ds v w pc b r p rest
  passes_plain v w pc b h r p rest rule q o H R mh mr g es ee P T bs hp ht hv =
      (R T, to_write_label rule q o (H P) ∷ [], mr T ht, g bs (H P) (mh P hp) hv, ee T, es P T)

  -- an assignment
  pub passes_set : (v w x : Sides) (pc b l h r : Option Best) (p rest : Plan) (q : Pos) (side : Spot) (o : Option (Label × Label))
      (F : List Part → List Part → List Part) (H R : List Part → List Part) →
      TurnsTwo pc b l F → Turns pc h H → Turns b r R → Gains l v w (to RAsgn q side) → Gains h w x (to_write_label RAsgn q o) →
      ((P T : List Part) → steps_by p P T ≡ to RAsgn q side (F P T) ∷ (to_write_label RAsgn q o (H P) ∷ steps_by rest P (R T)))
      → ((T : List Part) → ends p T ≡ ends rest (R T)) → Passes s t ds v x pc b r p rest
  passes_set v w x pc b l h r p rest q side o F H R ml mh mr g1 g2 es ee P T bs hp ht hv =
      let A = to RAsgn q side (F P T) in
      let B = to_write_label RAsgn q o (H P) in (
        R T,
        A ∷ (B ∷ []),
        mr T ht,
        subst (λ z. AreSides s t ds z x) (append_assoc bs (A ∷ []) (B ∷ [])) (g2 (bs ++ (A ∷ [])) (H P) (mh P hp) (g1 bs (F P T) (ml P T hp ht) hv)),
        ee T,
        es P T,
      )

  pub passes_if : (v0 v1 v2 v3 : Sides) (pc b h i g one two r : Option Best) (p A B rest : Plan) (w : Written) (e : Expression) → p ≡ If w e A B rest →
      Turns pc h (λ P. P ++ index_reads w.pos e) → Gains h v0 v1 (to_write_label RIf w.pos w.labels) →
      Turns b i (λ T. after T w e) → Turns pc g (λ P. P ++ reads UnderGuard w.pos e) →
      Passes s t ds v1 v2 g i one A Done → Passes s t ds v2 v3 g i two B Done → TurnsTwo one two r (λ xs ys. xs ++ ys) → Passes s t ds v0 v3 pc b r p rest
  passes_if v0 v1 v2 v3 pc b h i g one two r p A B rest w e is mh gh ms mi wa wb mj P T bs hp ht hv =
      let X = to_write_label RIf w.pos w.labels (P ++ index_reads w.pos e) in
      let S = after T w e in
      let G = P ++ reads UnderGuard w.pos e in
      let hs = ms T ht in
      let hg = mi P hp in
      let c = wa G S (bs ++ (X ∷ [])) hg hs (gh bs (P ++ index_reads w.pos e) (mh P hp) hv) in
      let d = wb G S ((bs ++ (X ∷ [])) ++ c.1) hg hs c.3 in
      let K = steps_by rest P (c.0 ++ d.0) in (
        c.0 ++ d.0,
        X ∷ (c.1 ++ d.1),
        mj c.0 d.0 c.2 d.2,
        subst (λ z. AreSides s t ds z v3) (append_assoc (bs ++ (X ∷ [])) c.1 d.1 ∙ append_assoc bs (X ∷ []) (c.1 ++ d.1)) d.3,
        ap (λ z. ends z T) is ∙ ap (λ z. ends rest (z ++ ends B S)) c.4 ∙ ap (λ z. ends rest (c.0 ++ z)) d.4,
        ap (λ z. steps_by z P T) is
            ∙ ap (λ z. X ∷ (steps_by A G S ++ (steps_by B G S ++ steps_by rest P (z ++ ends B S)))) c.4
            ∙ ap (λ z. X ∷ (steps_by A G S ++ (steps_by B G S ++ steps_by rest P (c.0 ++ z)))) d.4
            ∙ ap (λ z. X ∷ (z ++ (steps_by B G S ++ K))) (c.5 ∙ append-nil c.1)
            ∙ ap (λ z. X ∷ (c.1 ++ (z ++ K))) (d.5 ∙ append-nil d.1)
            ∙ ap (λ z. X ∷ z) (sym (append_assoc c.1 d.1 K)),
      )

  pub passes_while : (v0 v1 v2 : Sides) (pc b h i r g again : Option Best) (p C rest : Plan) (w : Written) (e : Expression) → p ≡ While w e C rest →
      Turns pc h (λ P. P ++ index_reads w.pos e) → Gains h v0 v1 (to_write_label RWhile w.pos w.labels) →
      Turns b i (λ T. after T w e) → ComesTo s t ds i r C Done → Turns pc g (λ P. P ++ reads UnderGuard w.pos e) → Passes s t ds v1 v2 g r again C Done
      → Passes s t ds v0 v2 pc b r p rest
  passes_while v0 v1 v2 pc b h i r g again p C rest w e is mh gh ms en mi wc P T bs hp ht hv =
      let X = to_write_label RWhile w.pos w.labels (P ++ index_reads w.pos e) in
      let G = P ++ reads UnderGuard w.pos e in
      let E = en (after T w e) (ms T ht) in
      let c = wc G E.0 (bs ++ (X ∷ [])) (mi P hp) E.1 (gh bs (P ++ index_reads w.pos e) (mh P hp) hv) in
      let K = steps_by rest P E.0 in (
        E.0,
        X ∷ c.1,
        E.1,
        subst (λ z. AreSides s t ds z v2) (append_assoc bs (X ∷ []) c.1) c.3,
        ap (λ z. ends z T) is ∙ ap (λ z. ends rest z) E.2,
        ap (λ z. steps_by z P T) is
            ∙ ap (λ z. X ∷ (steps_by C G z ++ steps_by rest P z)) E.2
            ∙ ap (λ z. X ∷ (z ++ K)) (c.5 ∙ append-nil c.1),
      )

  pub passes_mitigate : (v0 v1 v2 v3 : Sides) (pc b h i last : Option Best) (k : ℕ) (l : Option Label) (p C rest : Plan) (w : Written) (e : Expression)
      → p ≡ Mitigate w k l e C rest →
      Turns pc h (λ P. P ++ index_reads w.pos e) → Gains h v0 v1 (to_write_label RMtg w.pos w.labels) →
      Turns b i (λ T. after T w e) → Passes s t ds v1 v2 pc i last C Done → Gains last v2 v3 (to RMtg w.pos (OfLevel k l)) → Passes s t ds v0 v3 pc b i p rest
  passes_mitigate v0 v1 v2 v3 pc b h i last k l p C rest w e is mh gh ms wc gl P T bs hp ht hv =
      let X = to_write_label RMtg w.pos w.labels (P ++ index_reads w.pos e) in
      let S = after T w e in
      let c = wc P S (bs ++ (X ∷ [])) hp (ms T ht) (gh bs (P ++ index_reads w.pos e) (mh P hp) hv) in
      let Y = to RMtg w.pos (OfLevel k l) c.0 in
      let K = steps_by rest P S in (
        S,
        X ∷ (c.1 ++ (Y ∷ [])),
        ms T ht,
        subst (λ z. AreSides s t ds z v3) (append_assoc (bs ++ (X ∷ [])) c.1 (Y ∷ []) ∙ append_assoc bs (X ∷ []) (c.1 ++ (Y ∷ [])))
            (gl ((bs ++ (X ∷ [])) ++ c.1) c.0 c.2 c.3),
        ap (λ z. ends z T) is,
        ap (λ z. steps_by z P T) is
            ∙ ap (λ z. X ∷ (z ++ (to RMtg w.pos (OfLevel k l) (ends C S) ∷ K))) (c.5 ∙ append-nil c.1)
            ∙ ap (λ z. X ∷ (c.1 ++ (to RMtg w.pos (OfLevel k l) z ∷ K))) c.4
            ∙ ap (λ z. X ∷ z) (sym (append_assoc c.1 (Y ∷ []) K)),
      )

  -- a pass over all commands
  pub all_passed : (v w : Sides) (r : Option Best) (p : Plan) → p ≡ plan_of s → AreSides s t ds [] v → Passes s t ds v w None None r p Done
      → AreSides s t ds (conditions_of s) w
  all_passed v w r p e hv h =
      let c = h [] [] [] (nothing_best s t ds) (nothing_best s t ds) hv in
      subst (λ z. AreSides s t ds z w) (sym (c.5 ∙ append-nil c.1) ∙ ap (λ z. steps_by z [] []) e) c.3
