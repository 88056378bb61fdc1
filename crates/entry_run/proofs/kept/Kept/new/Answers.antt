use Rattle.entry_run.proofs.Keeping.{none_kept, none_closed}
use Rattle.entry_run.proofs.Counting.{none_told}
use Rattle.entry_run.proofs.kept.Kept.new.Goals as goal

pub returns-clause-none : goal.returns-clause-none
returns-clause-none c numbers t e = none_kept numbers c.new-entries.result.items t c.new-entries.ensures.items e

pub returns-clause-closed : goal.returns-clause-closed
returns-clause-closed c numbers t e = none_closed numbers c.new-entries.result.items t c.new-entries.ensures.items e

pub returns-clause-counts : goal.returns-clause-counts
returns-clause-counts c such numbers t = none_told such numbers c.new-entries.result.items t c.new-entries.ensures.items
