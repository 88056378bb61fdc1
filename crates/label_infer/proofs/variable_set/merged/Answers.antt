use Rattle.std.proofs.Common.{ℕ, ap, ◌∙◌}
use Rattle.std.specs.Prelude.{Bool, ◌||◌}
use Rattle.label_infer.specs.Rows.{has_in}
use Rattle.label_infer.proofs.Joined.{if_ok}
use Rattle.label_infer.proofs.Sets.{joined_rows, kept_row, swapped_rows}
use Rattle.label_infer.proofs.variable_set.merged.Goals as goal

pub returns-then-includes : goal.returns-then-includes
returns-then-includes c =
    kept_row c.args.a.now.value c.args.b.now.value c.deref.result.now c.deref-2.result.now c.in_ok-clone.field-0.value
    (c.includes.ensures c.if-includes.true) c.deref.ensures c.deref-2.ensures c.in_ok-clone.ensures.cases

pub returns-then-includes-2 : goal.returns-then-includes-2
returns-then-includes-2 c =
    kept_row c.args.b.now.value c.args.a.now.value c.deref-3.result.now c.deref-4.result.now c.in_ok-clone-2.field-0.value
    (c.includes-2.ensures c.if-includes-2.true) c.deref-3.ensures c.deref-4.ensures c.in_ok-clone-2.ensures.cases
    ∙ swapped_rows c.args.a.now.value c.args.b.now.value

pub returns : goal.returns
returns c =
    let more = c.deref-6.result.now in
    let all = joined_rows c.unite.new.self c.args.a.now.value c.args.b.now.value c.deref-5.result.now more
    (c.unite.ensures ∙ ap (λ (f : ℕ → Bool). λ y. f y || has_in more.words.items y) c.in_ok-all.ensures) c.deref-5.ensures c.deref-6.ensures in
    if_ok c.of_row.result (λ s h. h ∙ all) c.of_row.ensures
