use Rattle.std.proofs.Common.{map, inl, sym, subst}
use Rattle.std.specs.Prelude.{Some}
use Rattle.start_file.specs.Starts.{seen}
use Rattle.tool_texts.specs.Ends.{IsStop}
use Rattle.tool_texts.specs.declared.status.Status.TheVariants.{Done}
use Rattle.space_stage.specs.declared.given.StartSet.{StartSet}
use Rattle.space_stage.specs.Given.{value_of}
use Rattle.lab_leak.specs.Answer.{HasOpenLeak}
use Rattle.lab_leak.specs.Views.{open_shown}
use Rattle.lab_leak.proofs.open.open_text.Goals as goal

pub returns-in-Ok-clause-text : goal.returns-in-Ok-clause-text
returns-in-Ok-clause-text g c =
    let x = open_shown c.args.p.now c.args.refusal.now in
    subst (λ (z : StartSet). HasOpenLeak c.args.setting.env c.args.setting.budget x (Some c.args.observer) (value_of z) Done c.in-Ok.text.items)
    (sym c.in-List.is)
    (subst (λ z. HasOpenLeak c.args.setting.env c.args.setting.budget x (Some c.args.observer) (inl (map seen z)) Done c.in-Ok.text.items)
    c.as_slice-list.ensures.value c.in-Ok.ensures.text)

pub returns-in-List-clause-stop : goal.returns-in-List-clause-stop
returns-in-List-clause-stop g c =
    let x = open_shown c.args.p.now c.args.refusal.now in
    subst (λ (z : StartSet). IsStop (HasOpenLeak c.args.setting.env c.args.setting.budget x (Some c.args.observer) (value_of z)) c.in-Err.stop)
    (sym c.in-List.is)
    (subst (λ z. IsStop (HasOpenLeak c.args.setting.env c.args.setting.budget x (Some c.args.observer) (inl (map seen z))) c.in-Err.stop)
    c.as_slice-list.ensures.value c.in-Err.ensures.stop)
