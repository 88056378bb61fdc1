use Rattle.std.proofs.Common.{sym, ap, ◌∙◌, refl}
use Rattle.run_entries.proofs.Going.{starts}
use Rattle.run_entries.proofs.replay.Replay.new.Goals as goal

pub returns-clause-timed : goal.returns-clause-timed
returns-clause-timed c =
    starts c.new-misses.result c.new-opened.result.items c.new-log.result.items c.new-misses.ensures c.new-opened.ensures.items c.new-log.ensures.items
