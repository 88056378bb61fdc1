use Rattle.std.proofs.Common.{◌∙◌, sym, ap, []}
use Rattle.type_cert.specs.Certificate.{held_in}
use Rattle.type_cert.proofs.Apart.{one_whole}
use Rattle.type_cert.proofs.laws.holds_one_labelling.Goals as goal

pub returns : goal.returns
returns c = λ s l m bytes valid h k.
    let e = one_whole s valid h.variables k.variables h.lines k.lines bytes [] [] h.begins k.begins h.all_variables k.all_variables
    h.all_commands k.all_commands in
    h.labels ∙ sym (k.labels ∙ ap (λ z. held_in s z k.lines) e.0 ∙ ap (λ z. held_in s h.variables z) e.1)
