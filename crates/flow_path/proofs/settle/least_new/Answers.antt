use Rattle.std.proofs.Common.{rules, ◌≡◌, subst, length}
use Rattle.flow_path.specs.Distances.{IsLeastNew}
use Rattle.flow_path.proofs.settle.least_new.Goals as goal

pub loop-y-preserved : goal.loop-y-preserved
loop-y-preserved c = record { least = c.less-least.ensures c.args.p.now c.args.known.now c.args.found.now c.loop-y.y c.loop-y.invariant.least c.new_at.ensures }

pub returns : goal.returns
returns c =
    let e : c.loop-y.y ≡ length c.args.known.now = search rules in
    subst (λ z. IsLeastNew c.args.p.now c.args.known.now c.args.found.now z c.loop-y.least) e c.loop-y.invariant.least
