use Rattle.level_counts.proofs.ListLemmas.{lists_set}
use Rattle.level_counts.proofs.firsts.list.Goals as goal

pub returns : goal.returns
returns c =
    lists_set c.args.listed.now.items c.args.begun.level c.index_mut.result.now c.push.new.self c.args.begun.first c.requires c.index_mut.ensures.value
    c.in_ok-push.ensures.items
