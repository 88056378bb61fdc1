use Rattle.std.proofs.Common.{sym, subst, ◌∙◌}
use Rattle.timing_types.specs.Labelled.{LabelledProgram, HasType}
use Rattle.tool_stages.specs.Stages.{Types}
use Rattle.lab_why.proofs.ReasonLemmas.{of_ok, of_err, same_tokens, tells_reason}
use Rattle.lab_ready.proofs.typing.type_program.Goals as goal

pub returns-in-Ok-checked : goal.returns-in-Ok-checked
returns-in-Ok-checked c content reads is =
    let checked = c.in-Ok-check_why.checked in
    let typed = c.in-Ok-checked.typed in
    let same = of_ok checked typed _ c.in-Ok-checked.is c.in-Ok-check_why.ensures.labelled in
    let types : Types c.args.program c.in-Ok.labelled = record {
      program = c.in-Ok.ensures.program;
      least = c.in-Ok.ensures.least;
      typed = of_ok checked typed (λ _. HasType c.in-Ok.labelled) c.in-Ok-checked.is c.in-Ok-check_why.ensures.typed;
    } in
    subst (λ (z : LabelledProgram). Types c.args.program z) (sym same) types

pub returns-in-Ok-refusal_text : goal.returns-in-Ok-refusal_text
returns-in-Ok-refusal_text c content reads is =
    let checked = c.in-Ok-check_why.checked in
    let refusal = c.in-Err.refusal in
    let ensures = c.in-Ok-check_why.ensures in
    let refused = of_err checked refusal _ c.in-Err.is ensures.refused in
    let none = of_err checked refusal _ c.in-Err.is ensures.untyped in
    let reason = of_err checked refusal _ c.in-Err.is ensures.why in
    let cheapest = of_err checked refusal _ c.in-Err.is ensures.cheapest in
    let earliest = of_err checked refusal _ c.in-Err.is ensures.earliest in
    let list = same_tokens _ _ _ _ is reads.cut c.in-Ok-tokens.ensures.only in
    tells_reason content c.args.program c.in-Ok.labelled refusal.labelled refusal.fault refusal.chain.items reads _ _ _
    is (list ∙ sym c.as_slice.ensures.value) c.in-Ok.ensures.program refused.0 c.in-Ok.ensures.least
    c.in-Ok.ensures.types none refused.1 reason cheapest earliest
    c.in-Ok-refusal_text.ensures
