use Rattle.std.proofs.Common.{ℕ, sym, ap, ◌∙◌, List}
use Rattle.std.specs.Prelude.{◌||◌}
use Rattle.label_infer.specs.Rows.{has_in}
use Rattle.label_infer.proofs.row.Row.includes.Goals as goal

pub returns : goal.returns
returns c h =
    ap has_in (sym c.deref.ensures.value) ∙ c.words_include.ensures h
    ∙ ap (λ (w : List ℕ). λ y. has_in w y || has_in c.deref-2.result.now y) c.deref.ensures.value
    ∙ ap (λ (w : List ℕ). λ y. has_in c.args.self.now.words.items y || has_in w y) c.deref-2.ensures.value
