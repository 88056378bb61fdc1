use Rattle.std.proofs.Common.{◌≡◌, ℕ, ap, ◌∙◌, arith, List, length}
use Rattle.std.specs.Prelude.{◌||◌}
use Rattle.std.proofs.lemmas.List.{with_items_is}
use Rattle.label_infer.specs.Rows.{has_in}
use Rattle.label_infer.proofs.row.Row.unite.Goals as goal

pub returns : goal.returns
returns c =
    let v = c.args.self.now.words in
    let new = c.unite_words.new.words in
    let vl = c.deref_mut.ensures.len in
    let dv = ap length c.deref_mut.ensures.value in
    let full = c.args.self.now.full in
    let len : length new ≡ v.len = omega (arith, vl, dv, full, c.unite_words.ensures.full) in
    ap has_in (with_items_is v new len) ∙ c.unite_words.ensures.has
    ∙ ap (λ (w : List ℕ). λ y. has_in w y || has_in c.deref.result.now y) c.deref_mut.ensures.value
    ∙ ap (λ (w : List ℕ). λ y. has_in v.items y || has_in w y) c.deref.ensures.value
