use Rattle.std.proofs.Common.{◌≡◌, ◌≤◌, ◌+◌, ◌-◌, length, sym, subst, arith}
use Rattle.steady_code.specs.View.{low_in}
use Rattle.steady_code.proofs.Clear.{one_more}
use Rattle.steady_code.proofs.Quiet.{IsTail, tail_ends, tail_here, tail_there}
use Rattle.steady_code.proofs.tail.last_seen.Goals as goal
use Rattle.steady_code.proofs.tail.last_seen.Goals.{then-place-least, else-place-least}

pub returns-in-None-clause-last : goal.returns-in-None-clause-last
returns-in-None-clause-last c =
    let count = c.len-count.ensures in
    let test = c.loop-back-test.true in
    let is : c.len-count.result - 1 - c.loop-back.back + 1 + c.loop-back.back ≡ length c.args.image.now.instrs = omega (arith, count, test) in
    tail_ends (low_in c.args.lattice.now c.args.labels.now c.args.observer.number) c.args.image.now.instrs c.loop-back.back c.loop-back.end c.loop-back.least
    (c.len-count.result - 1 - c.loop-back.back) c.at-work.result is c.at-work.ensures c.loop-back.invariant.2 c.in-None.ensures

pub loop-back-preserved : goal.loop-back-preserved
loop-back-preserved c =
    let low = low_in c.args.lattice.now c.args.labels.now c.args.observer.number in
    let image = c.args.image.now.instrs in
    let back = c.loop-back.back in
    let place = c.len-count.result - 1 - c.loop-back.back in
    let to = c.in-Some.to in
    let count = c.len-count.ensures in
    let test = c.loop-back-test.true in
    let most = c.loop-back.invariant.1 in
    let below = c.in-Some.ensures.0 in
    let is : c.len-count.result - 1 - c.loop-back.back + 1 + c.loop-back.back ≡ length c.args.image.now.instrs = omega (arith, count, test) in
    let near : c.in-Some.to ≤ length c.args.image.now.instrs = omega (arith, most, below) in
    let within : c.len-count.result - 1 - c.loop-back.back ≤ length c.args.image.now.instrs = omega (arith, is) in
    elim c.if-place-least.branch [
      | then-place-least w ↦
          subst (λ z. (z ≤ length image) × (to ≤ length image) × IsTail low image (back + 1) z to) (sym w.end-is) (
            within,
            near,
            subst (λ z. IsTail low image z place to) (one_more back)
                (tail_here low image back c.loop-back.end c.loop-back.least place c.at-work.result is c.at-work.ensures c.loop-back.invariant.2 to below
                c.in-Some.ensures.1 c.in-Some.ensures.2 w.if-place-least.true),
          )
      | else-place-least w ↦
          subst (λ z. (z ≤ length image) × (to ≤ length image) × IsTail low image (back + 1) z to) (sym w.end-is) (
            c.loop-back.invariant.0,
            near,
            subst (λ z. IsTail low image z c.loop-back.end to) (one_more back)
                (tail_there low image back c.loop-back.end c.loop-back.least place c.at-work.result is c.at-work.ensures c.loop-back.invariant.2 to below
                c.in-Some.ensures.1 c.in-Some.ensures.2 w.if-place-least.false),
          )
    ]
