use Rattle.lab_why.proofs.SpelledLemmas.{spells_explained}
use Rattle.lab_why.proofs.explained.explain_text.Goals as goal

pub returns-in-Ok-Spells : goal.returns-in-Ok-Spells
returns-in-Ok-Spells c =
    spells_explained c.args.text.now c.in-Ok-Spells.field-0 c.in-Ok-Spells.program c.explain_program.result c.in-Ok-Spells.ensures c.in-Ok-Spells.field-0-is
    c.explain_program.ensures
