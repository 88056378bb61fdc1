use Rattle.std.proofs.Common.{◌≡◌, ◌<◌, ◌+◌, [], sym, subst, length, ◌∷◌, length-append, arith}
use Rattle.std.specs.Prelude.{None, slice_index_or}
use Rattle.flow_path.specs.declared.step.Spot.TheVariants.{Variable}
use Rattle.flow_path.specs.Steps.{written}
use Rattle.flow_path.specs.Distances.{cost_by}
use Rattle.flow_path.proofs.Settling.{more_each}
use Rattle.flow_path.proofs.known_costs.starts.Goals as goal

pub loop-y-preserved : goal.loop-y-preserved
loop-y-preserved c =
    let is = c.in_ok-push.ensures.items in
    let old = c.loop-y.variables.items in
    let fit = c.loop-y.invariant.fit in
    let len = length-append c.loop-y.variables.items (c.start_at.result ∷ []) in
    let one : length c.push.new.self.items ≡ length c.loop-y.variables.items + 1 =
    subst (λ z. length z ≡ length c.loop-y.variables.items + 1) (sym is) (omega (arith, len)) in
    record {
      fit = omega (arith, one, fit);
      each = λ y l.
          subst (λ z. slice_index_or z y None ≡ cost_by c.args.p.now c.args.target.now [] (Variable y) (written c.args.p.now (Variable y))) (sym is)
          (more_each (λ y z. z ≡ cost_by c.args.p.now c.args.target.now [] (Variable y) (written c.args.p.now (Variable y))) old c.start_at.result c.loop-y.y
          fit c.loop-y.invariant.each c.start_at.ensures y
          (subst (λ z. y < length z) is l));
    }
