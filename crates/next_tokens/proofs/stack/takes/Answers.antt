use Rattle.std.proofs.Common.{◌∙◌, sym, ap, arith}
use Rattle.std.specs.Prelude.{is_some}
use Rattle.next_tokens.proofs.Steps.{stuck_here, over_here, goes_here}
use Rattle.next_tokens.proofs.stack.takes.Goals as goal

pub returns-in-Stuck : goal.returns-in-Stuck
returns-in-Stuck c = λ w q. sym (ap is_some (c.loop-i.invariant.same w q
    ∙ stuck_here c.args.parts.now c.loop-i.i _ c.args.sort (omega arith) c.loop-i.invariant.within c.in-Stuck.ensures w q))

pub loop-i-preserved : goal.loop-i-preserved
loop-i-preserved c = record {
  within = omega arith;
  same = λ w q. c.loop-i.invariant.same w q
      ∙ over_here c.args.parts.now c.loop-i.i _ c.args.sort (omega arith) c.loop-i.invariant.within c.in-Over.ensures w q;
}

pub returns-in-Goes : goal.returns-in-Goes
returns-in-Goes c = λ w q. sym (ap is_some (c.loop-i.invariant.same w q
    ∙ goes_here c.args.parts.now c.loop-i.i _ c.args.sort (omega arith) c.loop-i.invariant.within c.in-Goes.field-0.now c.in-Goes.ensures w q))
