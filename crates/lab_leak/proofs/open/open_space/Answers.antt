use Rattle.std.proofs.Common.{◌++◌, inr, ap, sym, ◌∙◌, subst}
use Rattle.std.specs.Prelude.{Some}
use Rattle.space_starts.specs.Space.{seen}
use Rattle.tool_texts.specs.declared.status.Status.TheVariants.{Done}
use Rattle.lab_runs.specs.Shown.{head_line}
use Rattle.lab_leak.specs.Answer.{HasOpenLeak}
use Rattle.lab_leak.specs.Views.{open_shown}
use Rattle.lab_leak.proofs.Answering.{open_space_tells, open_space_stops}
use Rattle.lab_leak.proofs.open.open_space.Goals as goal

pub returns-in-Err-clause-stop : goal.returns-in-Err-clause-stop
returns-in-Err-clause-stop g c =
    open_space_stops c.args.setting.env c.args.setting.budget (open_shown c.args.p.now c.args.refusal.now) c.args.observer (seen c.args.space.now)
    c.in-Err.stop c.in-Err.ensures.why

pub returns-in-Ok-below-clause-text : goal.returns-in-Ok-below-clause-text
returns-in-Ok-below-clause-text g c =
    let x = open_shown c.args.p.now c.args.refusal.now in
    let z = seen c.args.space.now in
    subst (λ y. HasOpenLeak c.args.setting.env c.args.setting.budget x (Some c.args.observer) (inr z) Done y)
    (ap (λ z. head_line c.args.refusal.now ++ z) (sym c.as_slice.ensures.value) ∙ sym c.in-Ok-below.ensures)
    (open_space_tells c.args.setting.env c.args.setting.budget x c.args.observer z c.in-Ok.text.items c.in-Ok.ensures.text)
