use Rattle.std.proofs.Common.{ℕ, ap, ◌∙◌}
use Rattle.std.specs.Prelude.{Bool, ◌||◌, eqb}
use Rattle.label_infer.proofs.Joined.{if_ok}
use Rattle.label_infer.proofs.variable_set.two.Goals as goal

pub returns : goal.returns
returns c =
    let a = c.args.a.number in
    let b = c.args.b.number in
    if_ok c.of_row.result
    (λ s h. h ∙ c.insert-2.ensures ∙ ap (λ (f : ℕ → Bool). λ y. f y || eqb b y) c.insert.ensures
    ∙ ap (λ (f : ℕ → Bool). λ y. (f y || eqb a y) || eqb b y) c.in_ok-row.ensures) c.of_row.ensures
