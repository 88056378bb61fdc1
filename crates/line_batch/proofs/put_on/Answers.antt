use Rattle.line_batch.proofs.BatchLemmas.{write_on}
use Rattle.line_batch.proofs.put_on.Goals as goal

pub returns-clause-appended : goal.returns-clause-appended
returns-clause-appended g c =
    write_on _ _ _ _ _ c.write.result _ c.in_ok-hand_all.ensures.empty.0 c.in_ok-hand_all.ensures.empty.1 c.hand_all.ensures.kept c.write.ensures.appended
