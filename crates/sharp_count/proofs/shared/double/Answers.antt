use Rattle.std.proofs.Common.{ℕ, ◌-◌, List, arith}
use Rattle.std.proofs.Math.ListN.{length-set}
use Rattle.sharp_count.proofs.Table.{first_row, next_row}
use Rattle.sharp_count.proofs.shared.double.Goals as goal

pub loop-powers-init : goal.loop-powers-init
loop-powers-init c = (
  omega (arith, length-set {A = List ℕ}),
  first_row c.args.most c.args.table.now c.row_of_none.result (omega arith) c.requires.halved c.row_of_none.ensures,
)

pub row_of-requires : goal.row_of-requires
row_of-requires c = record {
  some = omega (arith, c.loop-powers.auto.powers);
  few = omega arith;
  left = c.requires.left;
  halved = c.loop-powers.invariant.1.left c.loop-powers.powers (omega arith) (omega arith);
  shorter = c.loop-powers.invariant.1.made (c.loop-powers.powers - 1) (omega (arith, c.loop-powers.auto.powers));
}

pub loop-powers-preserved : goal.loop-powers-preserved
loop-powers-preserved c = (
  omega (arith, length-set {A = List ℕ}),
  next_row c.args.most c.loop-powers.powers c.loop-powers.table c.row_of.result (omega arith) c.loop-powers.invariant.1 c.row_of.ensures,
)

pub returns-clause-table : goal.returns-clause-table
returns-clause-table c = λ k le. c.loop-powers.invariant.1.made k (omega arith)
