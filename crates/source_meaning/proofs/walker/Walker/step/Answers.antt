use Rattle.std.proofs.Common.{◌≡◌, sym, ◌∙◌, subst, map, length, [], ◌∷◌, ◌++◌}
use Rattle.std.specs.Prelude.{IfOk}
use Rattle.mit_syntax.specs.Todo.{then_todo}
use Rattle.mit_syntax.specs.Plan.{list_plan}
use Rattle.source_meaning.specs.Source.{source_act}
use Rattle.source_meaning.specs.Frames.{IsFrame, without_last, todo_of}
use Rattle.source_meaning.specs.Walked.{Standing, IsStep, source_at, told_by}
use Rattle.source_meaning.proofs.Places.{last_there}
use Rattle.source_meaning.proofs.Exact.{is_step, no_empty, positive, framed, lent}
use Rattle.source_meaning.proofs.walker.Walker.step.Goals as goal

pub unreachable-requires : goal.unreachable-requires
unreachable-requires c =
    let is : map (λ f. f.now) c.self.inside.frames.items ≡ without_last (map (λ f. f.now) c.self.inside.frames.items) ++ c.index-list.result.now.now ∷ [] =
    last_there (λ f. f.now) c.self.inside.frames.items c.len-depth.result c.index-list.result.now (c.len-depth.ensures ∙ c.self.inside.frames.ok.0)
    (positive c.len-depth.result c.if-depth-eq0.false) c.index-list.ensures in
    let frame = framed (map (λ f. f.now) c.self.inside.frames.items) (length c.self.inside.memory.items) c.index-list.result.now.now c.self.invariant is in
    no_empty c.index-list.result.now.now frame.0 c.in_default.len_below

pub obey-requires-clause-frame : goal.obey-requires-clause-frame
obey-requires-clause-frame c =
    let is : map (λ f. f.now) c.self.inside.frames.items ≡ without_last (map (λ f. f.now) c.self.inside.frames.items) ++ c.index-list.result.now.now ∷ [] =
    last_there (λ f. f.now) c.self.inside.frames.items c.len-depth.result c.index-list.result.now (c.len-depth.ensures ∙ c.self.inside.frames.ok.0)
    (positive c.len-depth.result c.if-depth-eq0.false) c.index-list.ensures in
    let frame = framed (map (λ f. f.now) c.self.inside.frames.items) (length c.self.inside.memory.items) c.index-list.result.now.now c.self.invariant is in
    subst (λ m. IsFrame (length m) c.index-list.result.now.now) (sym c.deref_mut.ensures.value) frame

pub returns-clause-step : goal.returns-clause-step
returns-clause-step c =
    let is : map (λ f. f.now) c.self.inside.frames.items ≡ without_last (map (λ f. f.now) c.self.inside.frames.items) ++ c.index-list.result.now.now ∷ [] =
    last_there (λ f. f.now) c.self.inside.frames.items c.len-depth.result c.index-list.result.now (c.len-depth.ensures ∙ c.self.inside.frames.ok.0)
    (positive c.len-depth.result c.if-depth-eq0.false) c.index-list.ensures in
    let frame = framed (map (λ f. f.now) c.self.inside.frames.items) (length c.self.inside.memory.items) c.index-list.result.now.now c.self.invariant is in
    let new : Standing = record { lists = map (λ f. f.now) c.obey.new.frames.items; memory = c.obey.new.memory } in
    let step =
    subst (λ m. IfOk c.obey.result (λ walk. source_act
    (then_todo (list_plan c.index-list.result.now.now) (todo_of (without_last (map (λ f. f.now) c.self.inside.frames.items)))) m []
    ≡ source_at new (told_by walk))) c.deref_mut.ensures.value c.obey.ensures.step in
    subst (λ z. IfOk c.obey.result (λ walk. IsStep c.args.self.now walk (record { lists = map (λ f. f.now) c.obey.new.frames.items; memory = z })))
    (sym (lent c.self.inside.memory.len c.obey.new.memory _ (c.obey.auto.memory ∙ c.deref_mut.ensures.len)))
    (subst (λ s. IfOk c.obey.result (λ walk. IsStep s walk new)) c.self.view_is
    (is_step (map (λ f. f.now) c.self.inside.frames.items) c.self.inside.memory.items c.index-list.result.now.now new c.obey.result is
    frame.0 step c.obey.ensures.told))
