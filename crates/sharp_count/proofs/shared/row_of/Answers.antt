use Rattle.std.proofs.Common.{ℕ, ◌<◌, length, arith}
use Rattle.std.proofs.Math.ListN.{length-set}
use Rattle.leak_bound.specs.Digits.{digits}
use Rattle.sharp_count.specs.Shares.{shares}
use Rattle.sharp_count.proofs.Table.{row_more, cell_is, cell_fits}
use Rattle.sharp_count.proofs.shared.row_of.Goals as goal

pub overflow_add-row-in-loop-spent-2 : goal.overflow_add-row-in-loop-spent-2
overflow_add-row-in-loop-spent-2 c =
    let is = cell_is c.args.most c.args.powers c.loop-spent.spent c.args.halved.now c.args.shorter.now c.requires.left c.requires.some (omega arith)
    c.requires.halved c.requires.shorter in
    omega (arith, is, cell_fits c.args.most c.args.powers c.loop-spent.spent c.ranges.most.fits c.requires.few)

pub loop-spent-preserved : goal.loop-spent-preserved
loop-spent-preserved c =
    let is = cell_is c.args.most c.args.powers c.loop-spent.spent c.args.halved.now c.args.shorter.now c.requires.left c.requires.some (omega arith)
    c.requires.halved c.requires.shorter in
    let lt : c.loop-spent.spent < length c.loop-spent.row = omega arith in (
      omega (arith, length-set {A = ℕ}),
      row_more (λ j. shares (digits c.args.most) c.args.powers c.args.most j) c.loop-spent.row c.loop-spent.spent _ lt c.loop-spent.invariant.1 is,
    )

pub returns : goal.returns
returns c = λ j le. c.loop-spent.invariant.1 j (omega arith)
