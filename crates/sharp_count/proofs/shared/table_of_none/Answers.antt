use Rattle.std.proofs.Common.{◌≡◌, ◌+◌, ◌∙◌, ℕ, replicate, arith, ap, length}
use Rattle.sharp_count.specs.Shares.{IsRow}
use Rattle.sharp_count.proofs.Table.{zeros, push_row}
use Rattle.sharp_count.proofs.shared.table_of_none.Goals as goal

pub loop-powers-init : goal.loop-powers-init
loop-powers-init c =
    let one : 0 + 1 ≡ 1 = omega arith in
    let p = push_row (IsRow 0) c.in_ok-table.table.items c.push.new.self.items c.row_of_none.result 0 c.in_ok-push.ensures.items
    (ap length c.in_ok-table.ensures.items) c.row_of_none.ensures (λ j h. absurd (omega (arith, h))) in
    (p.0 ∙ one, λ k h. p.1 k (omega (arith, h)))

pub loop-powers-preserved : goal.loop-powers-preserved
loop-powers-preserved c =
    push_row (IsRow 0) c.loop-powers.table.items c.push-in-loop-powers.new.self.items (replicate {A = ℕ} 65 0) c.loop-powers._powers
    c.in_ok-push-2.ensures.items
    c.loop-powers.invariant.0 (zeros c.loop-powers._powers (omega (arith, c.loop-powers.auto._powers))) c.loop-powers.invariant.1

pub returns-clause-rows : goal.returns-clause-rows
returns-clause-rows c =
    c.loop-powers.invariant.0 ∙ (omega (arith, c.loop-powers.auto._powers, c.loop-powers.auto._powers-end, c.loop-powers-test.false))

pub returns-clause-table : goal.returns-clause-table
returns-clause-table c = λ k le. c.loop-powers.invariant.1 k (omega (arith, c.loop-powers-test.false, le))
