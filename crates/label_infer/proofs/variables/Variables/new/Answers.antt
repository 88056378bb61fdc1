use Rattle.std.proofs.Common.{ap, arith, length}
use Rattle.label_infer.proofs.Holding.{told_none, room_none}
use Rattle.label_infer.proofs.variables.Variables.new.Goals as goal

pub invariant_of-result : goal.invariant_of-result
invariant_of-result c =
    let none = c.new.ensures.items in
    let n = ap length none in
    let rows = c.in_ok-holders.ensures in
    record {
      small = omega (arith, n);
      rows = rows.rows;
      told = told_none c.in_ok-holders.holders.items _ none rows.told;
      room = room_none _ 0 none;
      end = omega arith;
    }
