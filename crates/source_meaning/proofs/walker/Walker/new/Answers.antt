use Rattle.std.proofs.Common.{◌≡◌, sym, ap, ◌∙◌, subst, map, length, List, [], ◌∷◌, ◌++◌}
use Rattle.std.specs.Prelude.{ℤ, Option}
use Rattle.label_lattice.specs.declared.label.Label.{Label}
use Rattle.mit_syntax.specs.Plan.{Written, Plan, list_plan}
use Rattle.mit_syntax.specs.Program.{plan_of}
use Rattle.source_meaning.specs.Source.{Source}
use Rattle.source_meaning.specs.Frames.{IsGoing, todo_of}
use Rattle.source_meaning.proofs.Begins.{going_first, then_done}
use Rattle.source_meaning.proofs.walker.Walker.new.Goals as goal

pub invariant_of-result : goal.invariant_of-result
invariant_of-result c =
    let lists : map (λ f. f.now) c.push.new.self.items ≡ c.body.result.now ∷ [] =
    ap (map (λ f. f.now)) (c.in_ok-push.ensures.items ∙ ap (λ z. z ++ c.body.result ∷ []) c.new-frames.ensures.items) in
    subst (λ l. IsGoing l (length c.in_ok-memory.memory.items)) (sym lists)
    (going_first c.args.p.now c.body.result.now (length c.in_ok-memory.memory.items) c.body.ensures.body c.laws.ensures.valid
    (ap length c.in_ok-memory.ensures.items ∙ c.requires))

pub returns : goal.returns
returns c =
    let lists : map (λ f. f.now) c.push.new.self.items ≡ c.body.result.now ∷ [] =
    ap (map (λ f. f.now)) (c.in_ok-push.ensures.items ∙ ap (λ z. z ++ c.body.result ∷ []) c.new-frames.ensures.items) in
    let at : Plan → List ℤ → Source Written (Option Label) = λ (p : Plan) (m : List ℤ). record { todo = p; memory = m; notes = [] } in
    let todo : todo_of (map (λ f. f.now) c.push.new.self.items) ≡ plan_of c.args.p.now =
    ap todo_of lists ∙ then_done (list_plan c.body.result.now) ∙ c.body.ensures.body in
    ap (λ z. at z c.args.memory.now) (sym todo) ∙ ap (at (todo_of (map (λ f. f.now) c.push.new.self.items))) (sym c.in_ok-memory.ensures.items)
