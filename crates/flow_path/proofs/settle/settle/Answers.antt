use Rattle.std.proofs.Common.{rules, ◌≡◌, subst, length}
use Rattle.flow_path.specs.Distances.{IsSetBy}
use Rattle.flow_path.proofs.settle.settle.Goals as goal

pub returns : goal.returns
returns c =
    let e : c.loop-y.y ≡ length c.args.known.now.items = search rules in
    subst (λ z. IsSetBy c.args.p.now c.args.known.now.items c.args.found.now c.args.cost z c.loop-y.known.items) e c.loop-y.invariant.set
