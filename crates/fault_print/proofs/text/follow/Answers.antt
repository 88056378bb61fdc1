use Rattle.std.proofs.Common.{sym, ◌∙◌}
use Rattle.fault_print.proofs.Told.{follows, not_all}
use Rattle.fault_print.proofs.text.follow.Goals as goal

pub returns : goal.returns
returns c text = follows text c.args.tokens.now c.new.result.items c.saturating_sub-n.result c.in_ok-reach.reach.taken c.in_ok-reach.reach.sorts.items
    c.saturating_sub-n.ensures c.in_ok-reach.ensures
    (c.new.ensures.items ∙ sym (not_all c.in_ok-reach.reach.taken c.saturating_sub-n.result c.in_ok-reach.reach.sorts.items _ c.if-reach-n.false))
