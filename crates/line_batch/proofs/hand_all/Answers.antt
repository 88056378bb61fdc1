use Rattle.line_batch.proofs.BatchLemmas.{sent_both}
use Rattle.line_batch.proofs.hand_all.Goals as goal

pub returns-clause-sent : goal.returns-clause-sent
returns-clause-sent g c = sent_both _ _ _ _ _ c.hand_on-2.result c.in_ok-hand_on.ensures.sent c.hand_on-2.ensures.sent
