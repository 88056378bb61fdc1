use Rattle.std.proofs.Common.{sym, subst}
use Rattle.mit_syntax.specs.Valid.{IsValid}
use Rattle.flow_path.specs.Distances.{AreSettled}
use Rattle.flow_path.proofs.Picking.{goal_is}
use Rattle.flow_path.proofs.told.told_chain.Goals as goal

pub unreachable-requires : goal.unreachable-requires
unreachable-requires c =
    let q = c.requires.known in
    let settled = subst (λ z. AreSettled z q.0.target c.in_ok-all.all) (sym q.1)
    (subst (λ z. AreSettled c.args.p.now z c.in_ok-all.all) (sym q.2) c.in_ok-all.ensures) in
    goal_is q.0 (subst (λ z. IsValid z) (sym q.1) c.requires.valid) c.in_ok-all.all settled q.3 c.in-None.is
