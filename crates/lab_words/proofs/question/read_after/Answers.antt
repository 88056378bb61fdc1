use Rattle.lab_words.proofs.AskedLemmas.{ok_asks, taken_asks}
use Rattle.lab_words.proofs.question.read_after.Goals as goal

pub returns-clause-asked : goal.returns-clause-asked
returns-clause-asked c =
    ok_asks _ _ _ _ c.ok_or.ensures.value
    (taken_asks _ _ _ _ _ c.in-Ok.ensures c.in_ok-matches.ensures.taken c.in_ok-matches.ensures.rows c.question.ensures.asked)
