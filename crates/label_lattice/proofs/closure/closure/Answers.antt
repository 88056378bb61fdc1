use Rattle.std.proofs.Common.{arith, subst, sym, List, Bool, take, ◌+◌}
use Rattle.label_lattice.specs.Tables.{IsClosure}
use Rattle.label_lattice.proofs.Closures.{diagonal_is, step_below, step_with, step_same}
use Rattle.label_lattice.proofs.closure.closure.Goals as goal
use Rattle.label_lattice.proofs.closure.closure.Goals.{then-not-flows-x, else-not-flows-x}

pub loop-a-init : goal.loop-a-init
loop-a-init c = diagonal_is _ c.diagonal-flows.ensures

pub bounds-flows-x : goal.bounds-flows-x
bounds-flows-x c =
    let b = step_below c.args.pairs.now c.loop-a.a-index c.from-x.result c.from-y.result c.loop-a.flows c.loop-a.invariant c.requires c.loop-a-test.true
    c.from-x.ensures c.from-y.ensures in
    omega (arith, b.0, b.1)

pub with_pair-flows-requires-clause-x : goal.with_pair-flows-requires-clause-x
with_pair-flows-requires-clause-x c =
    (step_below c.args.pairs.now c.loop-a.a-index c.from-x.result c.from-y.result c.loop-a.flows c.loop-a.invariant c.requires c.loop-a-test.true
    c.from-x.ensures c.from-y.ensures).0

pub with_pair-flows-requires-clause-y : goal.with_pair-flows-requires-clause-y
with_pair-flows-requires-clause-y c =
    (step_below c.args.pairs.now c.loop-a.a-index c.from-x.result c.from-y.result c.loop-a.flows c.loop-a.invariant c.requires c.loop-a-test.true
    c.from-x.ensures c.from-y.ensures).1

pub loop-a-preserved : goal.loop-a-preserved
loop-a-preserved c =
    let P : List Bool → Type 0 = λ t. IsClosure t (take (c.loop-a.a-index + 1) c.args.pairs.now) in
    elim c.if-not-flows-x.branch [
      | then-not-flows-x w ↦ subst P (sym w.flows-is) (step_with c.args.pairs.now c.loop-a.a-index c.from-x.result c.from-y.result c.loop-a.flows
          c.loop-a.invariant c.requires c.loop-a-test.true c.from-x.ensures c.from-y.ensures w.with_pair-flows.result w.with_pair-flows.ensures)
      | else-not-flows-x w ↦ subst P (sym w.flows-is) (step_same c.args.pairs.now c.loop-a.a-index c.from-x.result c.from-y.result c.loop-a.flows
          c.loop-a.invariant c.requires c.loop-a-test.true c.from-x.ensures c.from-y.ensures w.if-not-flows-x.false)
    ]
