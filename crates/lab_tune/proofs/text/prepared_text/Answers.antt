use Rattle.std.proofs.Common.{◌++◌, ◌∙◌, length, map, ap, inr, refl}
use Rattle.start_file.specs.Starts.{seen}
use Rattle.machine_stage.specs.Lines.{machine_head}
use Rattle.lab_tune.specs.Text.{choice_lines, head_lines, tune_line}
use Rattle.lab_tune.proofs.Answering.{few_stop, tune_stop}
use Rattle.lab_tune.proofs.text.prepared_text.Goals as goal

pub returns-in-Err-best-clause-stop : goal.returns-in-Err-best-clause-stop
returns-in-Err-best-clause-stop g c =
    let p = c.args.p.now in
    tune_stop c.args.setting.env c.args.setting.budget c.args.mark c.args.bits p.compiled.typed.labelled p.observer (map seen p.starts.items) c.in-Ok.field-0
    c.in-Err-best.stop c.in-Ok.ensures.report c.in-Err-best.ensures.stop

pub returns-in-Err-told-clause-stop : goal.returns-in-Err-told-clause-stop
returns-in-Err-told-clause-stop g c =
    let p = c.args.p.now in
    let ss = map seen p.starts.items in
    few_stop c.args.setting.env c.args.setting.budget c.args.mark c.args.bits p.compiled.typed.labelled p.observer ss c.in-Ok.field-0
    c.in-Ok-best.best.items c.in-Err-told.stop c.in-Ok.ensures.report c.in-Ok-best.ensures.best
    (c.in-Err-told.ensures.stop c.args.setting.env c.args.setting.budget p.compiled.typed.labelled p.observer.number ss c.in-Ok-best.ensures.best)

pub returns-in-Ok-told_text-clause-text : goal.returns-in-Ok-told_text-clause-text
returns-in-Ok-told_text-clause-text g c =
    let p = c.args.p.now in
    let ss = map seen p.starts.items in
    let runs = length ss in
    inr (
      c.in-Ok.field-0,
      c.in-Ok.ensures.report,
      inr (
        c.in-Ok-best.best.items,
        c.in-Ok-best.ensures.best,
        inr (
          c.in-Ok-told.told.items,
          c.in-Ok-told.ensures.told c.args.setting.env c.args.setting.budget p.compiled.typed.labelled p.observer.number ss c.in-Ok-best.ensures.best,
          (
            refl,
            c.in-Ok-told_text.ensures ∙ ap (λ z. machine_head c.args.setting.env ++ (tune_line c.args.mark
                ++ (head_lines p.compiled.typed.labelled.program.order p.observer c.args.setting.budget runs ++ choice_lines runs z))) c.as_slice.ensures.value,
          ),
        ),
      ),
    )
