use Rattle.lab_why.proofs.SpelledLemmas.{has_program}
use Rattle.lab_check.proofs.faulty.spelling.Goals as goal

pub returns-in-Ok-parse : goal.returns-in-Ok-parse
returns-in-Ok-parse c =
    has_program c.args.text.now c.requires c.in-Ok.list.items c.deref.result.now c.in-Ok-parse.program c.in-Ok.ensures.answer c.deref.ensures.value
    c.in-Ok-parse.ensures
