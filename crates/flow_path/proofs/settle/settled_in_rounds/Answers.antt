use Rattle.std.proofs.Common.{rules, ◌≡◌, refl}
use Rattle.std.specs.Prelude.{None}
use Rattle.flow_path.specs.Costs.{nothing_yet}
use Rattle.flow_path.proofs.Settling.{known_begins, few_begins, distance_begins, turned, all_settled}
use Rattle.flow_path.proofs.settle.settled_in_rounds.Goals as goal

pub found_with-requires : goal.found_with-requires
found_with-requires c = known_begins c.args.p.now c.args.target.now c.in_ok-known.known c.in_ok-known.ensures

pub loop-cost-init : goal.loop-cost-init
loop-cost-init c = record {
  known = known_begins c.args.p.now c.args.target.now c.in_ok-known.known c.in_ok-known.ensures;
  few = few_begins c.args.p.now c.args.target.now c.in_ok-known.known c.in_ok-known.ensures;
  distance = (nothing_yet, distance_begins c.args.p.now c.args.target.now c.in_ok-known.known c.in_ok-known.ensures);
  sides = c.in_ok-all.ensures;
}

pub found_with-requires-in-Some : goal.found_with-requires-in-Some
found_with-requires-in-Some c =
    (turned c.args.p.now c.args.target.now c.loop-cost.known (record { variables = c.settle.new.known; lattice = c.loop-cost.known.lattice }) c.loop-cost.all
    c.in-Some.cost c.deref.result.now c.deref-in-loop-cost.result.now c.deref-in-Some.result.now c.least_new.result
    c.deref.ensures.value c.deref-in-loop-cost.ensures.value c.deref-in-Some.ensures.value c.in-Some.is c.least_new.ensures c.settle.ensures refl
    c.loop-cost.invariant.known c.loop-cost.invariant.few c.loop-cost.invariant.distance c.loop-cost.invariant.sides).0

pub loop-cost-smaller : goal.loop-cost-smaller
loop-cost-smaller c = (turned c.args.p.now c.args.target.now c.loop-cost.known (record { variables = c.settle.new.known; lattice = c.loop-cost.known.lattice })
    c.loop-cost.all c.in-Some.cost c.deref.result.now c.deref-in-loop-cost.result.now c.deref-in-Some.result.now c.least_new.result
    c.deref.ensures.value c.deref-in-loop-cost.ensures.value c.deref-in-Some.ensures.value c.in-Some.is c.least_new.ensures c.settle.ensures refl
    c.loop-cost.invariant.known c.loop-cost.invariant.few c.loop-cost.invariant.distance c.loop-cost.invariant.sides).3

pub loop-cost-preserved : goal.loop-cost-preserved
loop-cost-preserved c =
    let q = turned c.args.p.now c.args.target.now c.loop-cost.known (record { variables = c.settle.new.known; lattice = c.loop-cost.known.lattice })
    c.loop-cost.all c.in-Some.cost c.deref.result.now c.deref-in-loop-cost.result.now c.deref-in-Some.result.now c.least_new.result
    c.deref.ensures.value c.deref-in-loop-cost.ensures.value c.deref-in-Some.ensures.value c.in-Some.is c.least_new.ensures c.settle.ensures refl
    c.loop-cost.invariant.known c.loop-cost.invariant.few c.loop-cost.invariant.distance c.loop-cost.invariant.sides in
    record { known = q.0; few = q.1; distance = q.2; sides = c.in_ok-all-2.ensures }

pub returns : goal.returns
returns c =
    let none : c.least_new.result ≡ None = search rules in
    all_settled c.args.p.now c.args.target.now c.loop-cost.known c.loop-cost.all c.deref.result.now c.deref-in-loop-cost.result.now c.least_new.result
    c.deref.ensures.value c.deref-in-loop-cost.ensures.value none c.least_new.ensures
    c.loop-cost.invariant.known c.loop-cost.invariant.distance c.loop-cost.invariant.sides
