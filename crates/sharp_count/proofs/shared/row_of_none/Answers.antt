use Rattle.std.proofs.Common.{ℕ, ◌<◌, length, arith}
use Rattle.std.proofs.Math.ListN.{length-set}
use Rattle.leak_bound.specs.Digits.{digits}
use Rattle.sharp_count.specs.Shares.{shares}
use Rattle.sharp_count.proofs.Table.{row_more}
use Rattle.sharp_count.proofs.shared.row_of_none.Goals as goal

pub loop-spent-preserved : goal.loop-spent-preserved
loop-spent-preserved c =
    let lt : c.loop-spent.spent < length c.loop-spent.place-items = omega arith in (
      omega (arith, length-set {A = ℕ}),
      row_more (λ j. shares (digits c.args.most) 0 c.args.most j) c.loop-spent.place-items c.loop-spent.spent _ lt c.loop-spent.invariant.1 c.of_none.ensures,
    )

pub returns : goal.returns
returns c = λ j le. c.loop-spent.invariant.1 j (omega arith)
