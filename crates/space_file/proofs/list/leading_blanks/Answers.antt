use Rattle.std.proofs.Common.{◌≡◌, ℕ, ◌<◌, length, get_or, true, sym, ◌∙◌, arith}
use Rattle.std.proofs.lemmas.List.Sums.{prefix_len_is}
use Rattle.space_file.specs.Ranges.{is_blank}
use Rattle.space_file.proofs.list.leading_blanks.Goals as goal

pub returns-then-not-is_blank-clause-value : goal.returns-then-not-is_blank-clause-value
returns-then-not-is_blank-clause-value c =
    sym (prefix_len_is is_blank c.args.text.now c.loop-i.i 0 (omega arith) c.loop-i.invariant (λ _. sym c.is_blank.ensures ∙ c.if-not-is_blank.true))

pub returns-clause-value : goal.returns-clause-value
returns-clause-value c =
    let below : (k : ℕ) → k < length c.args.text.now → is_blank (get_or c.args.text.now k 0) ≡ true = λ k h. c.loop-i.invariant k (omega arith) in
    sym (prefix_len_is is_blank c.args.text.now (length c.args.text.now) 0 (omega arith) below (λ h. absurd (omega arith)))
