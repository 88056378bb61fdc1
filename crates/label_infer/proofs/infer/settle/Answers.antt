use Rattle.std.proofs.Common.{◌+◌, arith}
use Rattle.label_infer.proofs.Completed.{lattice_laws}
use Rattle.label_infer.proofs.Taking.{still_work}
use Rattle.label_infer.proofs.Bound.{still_within, chains_size}
use Rattle.label_infer.proofs.Starting.{bound_now}
use Rattle.label_infer.proofs.infer.settle.Goals as goal

pub loop-smaller : goal.loop-smaller
loop-smaller g c =
    let p = c.args.p.now in
    let valid = c.laws.ensures.valid in
    let t = c.take_up.ensures.taken c.loop-test.true in
    let h = c.loop.invariant.work in
    let used = c.loop.invariant.within.0 in
    let is = c.loop.invariant.within.1 in
    let upto = chains_size p.order (lattice_laws p.order valid.order) in
    let work = still_work p valid c.loop.work c.take_up.new.self t.0 t.1 h t.2 in
    let within = still_within p valid c.loop.work c.take_up.new.self t.0 t.1 p.order.size used h t.2 upto (c.loop.invariant.within.2 p.order.size upto) in
    let b = bound_now p c.take_up.new.self p.order.size (1 + used) work within in
    let s = c.take_up.ensures.steps c.loop-test.true in
    omega (arith, is, b, s)

pub loop-preserved : goal.loop-preserved
loop-preserved g c =
    let p = c.args.p.now in
    let valid = c.laws.ensures.valid in
    let t = c.take_up.ensures.taken c.loop-test.true in
    let h = c.loop.invariant.work in
    let used = c.loop.invariant.within.0 in
    let is = c.loop.invariant.within.1 in
    let s = c.take_up.ensures.steps c.loop-test.true in
    record {
      work = still_work p valid c.loop.work c.take_up.new.self t.0 t.1 h t.2;
      within = (
        1 + used,
        omega (arith, is, s),
        λ k upto. still_within p valid c.loop.work c.take_up.new.self t.0 t.1 k used h t.2 upto (c.loop.invariant.within.2 k upto),
      );
    }

pub returns-clause-steps : goal.returns-clause-steps
returns-clause-steps g c =
    let p = c.args.p.now in
    let d = c.take_up.ensures.done c.loop-test.false in
    let used = c.loop.invariant.within.0 in
    let is = c.loop.invariant.within.1 in
    let s = d.2 in
    λ k upto. let b = bound_now p c.loop.work k used c.loop.invariant.work (c.loop.invariant.within.2 k upto) in omega (arith, is, b, s)
