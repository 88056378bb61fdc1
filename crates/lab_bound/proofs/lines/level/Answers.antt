use Rattle.std.proofs.Common.{ap, ◌∙◌, ◌++◌, codes}
use Rattle.std.specs.Prelude.{decimal}
use Rattle.tool_texts.proofs.LineLemmas.{of_five}
use Rattle.lab_bound.specs.Text.{firsts_text}
use Rattle.lab_bound.proofs.lines.level.Goals as goal

pub returns : goal.returns
returns c =
    let number = codes " mitigations " ++ decimal c.args.told.mitigations in
    let firsts = firsts_text c.args.t c.args.told in
    of_five c.new-line.result c.put_text.new.self c.put_text-2.new.self c.put_number.new.line c.put_firsts.new.line c.put_text-3.new.self
    (codes "level ") c.bytes.result.now number firsts (codes "\n") c.new-line.ensures c.put_text.ensures c.put_text-2.ensures c.put_number.ensures.text
    c.put_firsts.ensures.text c.put_text-3.ensures
    ∙ ap (λ z. codes "level " ++ (z ++ (number ++ (firsts ++ codes "\n")))) (c.bytes.ensures.value ∙ c.name-name.ensures)
