use Rattle.std.proofs.Common.{ℕ, ap, ◌∙◌}
use Rattle.std.specs.Prelude.{Bool, ◌||◌, eqb}
use Rattle.label_infer.specs.declared.row.Row.{Row}
use Rattle.label_infer.specs.Rows.{has_in}
use Rattle.label_infer.proofs.Joined.{if_ok}
use Rattle.label_infer.proofs.variable_set.with_one.Goals as goal

pub returns : goal.returns
returns c =
    let x = c.args.more.number in
    if_ok c.of_row.result
    (λ s h. h ∙ c.insert.ensures ∙ ap (λ (f : ℕ → Bool). λ y. f y || eqb x y) c.in_ok-all.ensures
    ∙ ap (λ (r : Row). λ y. has_in r.words.items y || eqb x y) c.deref-2.ensures) c.of_row.ensures
