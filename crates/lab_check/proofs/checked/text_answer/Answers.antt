use Rattle.lab_check.proofs.FoundLemmas.{spells_found}
use Rattle.lab_check.proofs.checked.text_answer.Goals as goal

pub returns-in-Ok-Spells : goal.returns-in-Ok-Spells
returns-in-Ok-Spells c =
    spells_found c.args.text.now c.in-Ok-Spells.field-0 c.in-Ok-Spells.program c.program_answer.result c.in-Ok-Spells.ensures c.in-Ok-Spells.field-0-is
    c.program_answer.ensures
