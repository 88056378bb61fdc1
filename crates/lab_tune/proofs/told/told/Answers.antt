use Rattle.std.proofs.Common.{sym, subst}
use Rattle.tool_texts.specs.declared.status.Status.TheVariants as status
use Rattle.lab_tune.specs.Answer.{AreTold, FewStops}
use Rattle.lab_tune.proofs.Telling.{one_told, none_told}
use Rattle.lab_tune.proofs.told.told.Goals as goal

pub returns-in_default-enough-clause-stop : goal.returns-in_default-enough-clause-stop
returns-in_default-enough-clause-stop c = λ e t q o ss are.
    let line = c.none_enough.result in
    subst (λ z. FewStops e t q o c.args.mark z ss status.Refused line) (sym c.in-Some.is)
    (none_told e t q o c.args.mark c.in-Some.bits ss c.args.best.items c.as_slice.result.now c.as_slice.ensures.value are line c.in_default-enough.ensures
    c.none_enough.ensures)

pub returns-in-Ok-clause-told : goal.returns-in-Ok-clause-told
returns-in-Ok-clause-told c = λ e t q o ss are.
    let one = c.in-Ok.one.items in
    subst (λ z. AreTold e t q o c.args.mark z ss c.args.best.items one) (sym c.in-Some.is)
    (one_told e t q o c.args.mark c.in-Some.bits ss c.args.best.items c.as_slice.result.now c.as_slice.ensures.value are c.in-Some-enough.interval one
    c.in-Some-enough.ensures c.in-Ok.ensures)
