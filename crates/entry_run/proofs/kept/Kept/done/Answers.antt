use Rattle.entry_run.proofs.Keeping.{ends_kept}
use Rattle.entry_run.proofs.Counting.{ends_told}
use Rattle.entry_run.proofs.kept.Kept.done.Goals as goal

pub returns-clause-same : goal.returns-clause-same
returns-clause-same c numbers t n =
    ends_kept c.args.self c.keep.new.self c.last_deed-deed.result c.last_deed-deed.ensures c.in_ok-keep.ensures.entries numbers t n

pub returns-clause-counts : goal.returns-clause-counts
returns-clause-counts c such numbers t =
    ends_told c.args.self c.keep.new.self _ c.last_deed-deed.result c.last_deed-deed.ensures c.in_ok-keep.ensures.entries such numbers t
