use Rattle.std.proofs.Common.{sym, subst}
use Rattle.flow_path.specs.Distances.{IsNew}
use Rattle.flow_path.proofs.Settling.{set_skips, set_more}
use Rattle.flow_path.proofs.settle.settle_at.Goals as goal

pub returns-then-is_new-clause-set : goal.returns-then-is_new-clause-set
returns-then-is_new-clause-set c = λ ds l h.
    set_more c.args.p.now ds c.args.found.now c.args.cost c.args.y c.args.known.now.items h l
    (subst (λ z. IsNew c.args.p.now z c.args.found.now c.args.y c.args.cost) c.deref.ensures.value (c.is_new.ensures.yes c.if-is_new.true))

pub returns-else-is_new-clause-set : goal.returns-else-is_new-clause-set
returns-else-is_new-clause-set c = λ ds l h.
    set_skips c.args.p.now ds c.args.found.now c.args.cost c.args.y c.args.known.now.items h
    (λ n. c.is_new.ensures.no c.if-is_new.false (subst (λ z. IsNew c.args.p.now z c.args.found.now c.args.y c.args.cost) (sym c.deref.ensures.value) n))
