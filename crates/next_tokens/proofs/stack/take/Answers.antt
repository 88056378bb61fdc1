use Rattle.std.proofs.Common.{◌∙◌, sym, ap, Some}
use Rattle.next_tokens.specs.Parts.{left_of}
use Rattle.next_tokens.proofs.Steps.{at_stuck, at_over, at_goes}
use Rattle.next_tokens.proofs.stack.take.Goals as goal

pub returns-in-Stuck : goal.returns-in-Stuck
returns-in-Stuck c = λ w q. c.loop-part.invariant w q
    ∙ at_stuck c.loop-part.parts.items c.pop.new.self.items c.in-Some.part c.args.sort c.in-Some.ensures.items c.in-Stuck.ensures w q

pub loop-part-preserved : goal.loop-part-preserved
loop-part-preserved c = λ w q. c.loop-part.invariant w q
    ∙ at_over c.loop-part.parts.items c.pop.new.self.items c.in-Some.part c.args.sort c.in-Some.ensures.items c.in-Over.ensures w q

pub returns-in-Goes : goal.returns-in-Goes
returns-in-Goes c = λ w q. c.loop-part.invariant w q
    ∙ at_goes c.loop-part.parts.items c.pop.new.self.items c.in-Some.part c.args.sort c.in-Some.ensures.items c.in-Goes.after.now c.in-Goes.ensures w q
    ∙ ap (λ l. Some (left_of l)) (sym c.in_ok-extend_from_slice-in-Goes.ensures.items)
