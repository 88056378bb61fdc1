use Rattle.std.proofs.Common.{◌∙◌, ◌+◌}
use Rattle.std.proofs.lemmas.List.{take_rest}
use Rattle.lab_words.proofs.RefusalLemmas.{wrong_at}
use Rattle.lab_words.proofs.refusal.line_at.Goals as goal

pub returns : goal.returns
returns c =
    c.in_ok-wrong_line.ensures
    ∙ wrong_at c.args.verb c.args.command.now c.args.words.now _ c.args.at c.index-words-at.result c.as_str-word.result.now c.requires
    c.index-words-at.is c.as_str-word.ensures.value (take_rest c.args.words.now (c.args.at + 1))
