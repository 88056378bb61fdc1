use Rattle.std.proofs.Common.{refl, sym, ap, inl, inr, ◌∙◌}
use Rattle.tool_stages.specs.Stages.{Types}
use Rattle.timing_types.specs.Labelled.{HasType}
use Rattle.found_print.specs.Plain.{accepted_object}
use Rattle.lab_why.proofs.ReasonLemmas.{of_ok, of_err, same_tokens}
use Rattle.lab_check.proofs.FoundLemmas.{finds_reason}
use Rattle.lab_check.proofs.checked.program_answer.Goals as goal

pub returns-in_default-checked : goal.returns-in_default-checked
returns-in_default-checked c content reads is =
    let object = c.in_ok-object.ensures ∙ (ap (λ n. accepted_object n c.mitigates.result) c.commands.ensures
    ∙ ap (accepted_object _) c.mitigates.ensures) in
    let types : Types c.args.program c.in-Ok.labelled = record {
      program = c.in-Ok.ensures.program;
      least = c.in-Ok.ensures.least;
      typed = of_ok c.in-Ok-check_why.checked c.in_default-checked.field-0 (λ _. HasType c.in-Ok.labelled) c.in_default-checked.is
          c.in-Ok-check_why.ensures.typed;
    } in
    inr (c.in-Ok.labelled, types, (refl, object))

pub returns-in-Ok-refusal_object : goal.returns-in-Ok-refusal_object
returns-in-Ok-refusal_object c content reads is =
    let checked = c.in-Ok-check_why.checked in
    let refusal = c.in-Err.refusal in
    let ensures = c.in-Ok-check_why.ensures in
    let refused = of_err checked refusal _ c.in-Err.is ensures.refused in
    let none = of_err checked refusal _ c.in-Err.is ensures.untyped in
    let reason = of_err checked refusal _ c.in-Err.is ensures.why in
    let cheapest = of_err checked refusal _ c.in-Err.is ensures.cheapest in
    let earliest = of_err checked refusal _ c.in-Err.is ensures.earliest in
    let list = same_tokens _ _ _ _ is reads.cut c.in-Ok-tokens.ensures.only in
    inl (finds_reason content c.args.program c.in-Ok.labelled refusal.labelled refusal.fault refusal.chain.items reads _ _ _
    is (list ∙ sym c.as_slice.ensures.value) c.in-Ok.ensures.program refused.0 c.in-Ok.ensures.least
    c.in-Ok.ensures.types none refused.1 reason cheapest earliest
    c.in-Ok-refusal_object.ensures)
