use Rattle.line_batch.proofs.BatchLemmas.{join_appends}
use Rattle.line_batch.proofs.put_line.Goals as goal

pub returns-in-Ok-clause-appended : goal.returns-in-Ok-clause-appended
returns-in-Ok-clause-appended g c =
    join_appends _ _ _ _ _ _ _ c.args.first.now c.join.result c.make_room.ensures.kept c.join.ensures.items c.join.ensures.begun c.join.ensures.value
