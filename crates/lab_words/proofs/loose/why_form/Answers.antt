use Rattle.std.proofs.Common.{rules, ◌∙◌, ap₂}
use Rattle.std.proofs.lemmas.Result.{IfOk-weaker}
use Rattle.clap.specs.Words.{with_rule}
use Rattle.lab_words.proofs.loose.why_form.Goals as goal

pub returns : goal.returns
returns c =
    let first = c.in_ok-arg.ensures.shape (search rules) ∙ ap₂ with_rule c.bare_form.ensures c.new.ensures.rule in
    let second = c.in_ok-arg-2.ensures.shape (search rules) ∙ ap₂ with_rule first c.new-2.ensures.rule in
    let third = c.in_ok-arg-3.ensures.shape c.option.ensures.local ∙ ap₂ with_rule second c.option.ensures.rule in
    let fourth = c.in_ok-arg-4.ensures.shape c.option-2.ensures.local ∙ ap₂ with_rule third c.option-2.ensures.rule in
    let fifth = c.in_ok-arg-5.ensures.shape c.option-3.ensures.local ∙ ap₂ with_rule fourth c.option-3.ensures.rule in
    let sixth = c.in_ok-arg-6.ensures.shape c.option-4.ensures.local ∙ ap₂ with_rule fifth c.option-4.ensures.rule in
    IfOk-weaker c.arg-7.result _ _ (λ m h. h.shape c.option-5.ensures.local ∙ ap₂ with_rule sixth c.option-5.ensures.rule) c.arg-7.ensures
