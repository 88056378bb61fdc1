use Rattle.line_batch.proofs.BatchLemmas.{write_behind}
use Rattle.line_batch.proofs.put_long.Goals as goal

pub returns-in-Ok-clause-appended : goal.returns-in-Ok-clause-appended
returns-in-Ok-clause-appended g c =
    write_behind _ _ _ _ _ _ _ c.send_line.result _ c.in-Ok.ensures.empty c.hand_on.ensures.kept c.send_line.ensures.appended
