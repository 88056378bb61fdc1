use Rattle.std.proofs.Common.{Some, inl, inr, subst}
use Rattle.lab_ready.specs.Begun.{IsTyping}
use Rattle.lab_ready.proofs.BegunLemmas.{typed_begun}
use Rattle.lab_ready.proofs.program.observed_begun.Goals as goal

pub returns-in-Accepted : goal.returns-in-Accepted
returns-in-Accepted c =
    typed_begun c.args.text.now c.args.program c.args.observer c.in_ok-typed.field-0 c.in-Accepted.typed c.image_of.result
    c.in_ok-typed.ensures c.in-Accepted.is c.image_of.ensures

pub returns-in-Refused : goal.returns-in-Refused
returns-in-Refused c content word reads same sees =
    let reason = subst (IsTyping content c.args.program) c.in-Refused.is (c.in_ok-typed.ensures content reads same) in
    inr (c.args.program, reads, inr (Some c.args.observer, sees, inl reason))
