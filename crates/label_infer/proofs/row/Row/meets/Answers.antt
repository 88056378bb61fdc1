use Rattle.std.proofs.Common.{ℕ, List, subst}
use Rattle.std.specs.Prelude.{MatchBool}
use Rattle.label_infer.specs.Rows.{has_in, Meet}
use Rattle.label_infer.proofs.row.Row.meets.Goals as goal

pub returns : goal.returns
returns c =
    let a = c.args.self.now.words.items in
    let b = c.deref-2.result.now in
    subst (λ (w : List ℕ). MatchBool c.words_meet.result (Meet (has_in a) (has_in w)) (Meet (has_in a) (has_in w) → ⊥)) c.deref-2.ensures.value
    (subst (λ (w : List ℕ). MatchBool c.words_meet.result (Meet (has_in w) (has_in b)) (Meet (has_in w) (has_in b) → ⊥)) c.deref.ensures.value
    c.words_meet.ensures)
