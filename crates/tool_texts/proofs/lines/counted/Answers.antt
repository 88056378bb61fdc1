use Rattle.std.proofs.Common.{◌∙◌, ap, ◌++◌, decimal, codes}
use Rattle.tool_texts.proofs.LineLemmas.{of_five}
use Rattle.tool_texts.proofs.lines.counted.Goals as goal

pub returns : goal.returns
returns c =
    of_five _ _ _ _ _ _ c.args.words.now (decimal c.args.commands) (codes ", mitigates ") (decimal c.args.mitigates) (codes "\n")
    c.new-line.ensures (c.put.ensures.text) (c.put_number.ensures.text ∙ ap (λ n. c.put.new.line ++ decimal n) c.from.ensures)
    c.put-2.ensures.text (c.put_number-2.ensures.text ∙ ap (λ n. c.put-2.new.line ++ decimal n) c.from-2.ensures) c.put-3.ensures.text
