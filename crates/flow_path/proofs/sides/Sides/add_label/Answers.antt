use Rattle.std.proofs.Common.{◌≡◌, refl, sym, subst, [], ◌∷◌, ◌++◌}
use Rattle.std.specs.Prelude.{Option, None, Some}
use Rattle.flow_path.specs.Steps.{to_write_label}
use Rattle.flow_path.specs.Distances.{AreSides}
use Rattle.flow_path.proofs.Firsts.{label_added}
use Rattle.flow_path.proofs.sides.Sides.add_label.Goals as goal

is_none : {A : Type 0} (o : Option A) → ((x : A) → o ≡ Some x → ⊥) → o ≡ None
is_none None h = refl
is_none (Some x) h = absurd (h x refl)

pub returns-in-Some : goal.returns-in-Some
returns-in-Some c = λ ds bs ps h S.
    subst (λ z. AreSides c.args.p.now c.args.target.now ds (bs ++ (to_write_label c.args.rule c.args.pos z ps ∷ [])) c.add.new.self)
    (sym c.in-Some.is) (c.add.ensures ds bs ps h S)

pub returns-in_default : goal.returns-in_default
returns-in_default c = λ ds bs ps h S.
    subst (λ z. AreSides c.args.p.now c.args.target.now ds (bs ++ (to_write_label c.args.rule c.args.pos z ps ∷ [])) c.args.self.now)
    (sym (is_none c.args.labels.now c.in_default.not-Some)) (label_added c.args.p.now c.args.target.now ds bs c.args.self.now S)
