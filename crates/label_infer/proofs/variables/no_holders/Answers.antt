use Rattle.std.proofs.Common.{ap, arith, length}
use Rattle.std.proofs.lemmas.List.{length_push}
use Rattle.label_infer.proofs.Holding.{told_empty, tell_push}
use Rattle.label_infer.proofs.variables.no_holders.Goals as goal

pub loop-init : goal.loop-init
loop-init c = let none = c.in_ok-holders.ensures.items in record { fit = ap length none; told = told_empty c.in_ok-holders.holders.items none }

pub loop-preserved : goal.loop-preserved
loop-preserved c =
    let rows = c.loop.holders.items in
    let row = c.in_ok-row.row in
    let items = c.in_ok-push.ensures.items in
    let n = ap length items in
    let p = length_push rows row in
    let fit = c.loop.invariant.fit in
    record {
      fit = omega (arith, n, p, fit);
      told = tell_push rows c.push.new.self.items row items c.in_ok-row.ensures c.loop.invariant.told;
    }
