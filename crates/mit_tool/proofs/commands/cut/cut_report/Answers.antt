use Rattle.std.proofs.Common.{ap, ◌∙◌, ◌++◌}
use Rattle.std.specs.Prelude.{map}
use Rattle.start_file.specs.Starts.{seen}
use Rattle.tool_texts.specs.Reports.{cut_lines}
use Rattle.mit_tool.proofs.AuditLemmas.{cut_tells, cut_stop_stops}
use Rattle.mit_tool.proofs.commands.cut.cut_report.Goals as goal

pub returns-in-Err-clause-stop : goal.returns-in-Err-clause-stop
returns-in-Err-clause-stop g c =
    let q = c.args.p.now.compiled.typed.labelled in
    let l = c.args.p.now.observer in
    let ss = map seen c.args.p.now.starts.items in
    let is = c.program-program.ensures.program ∙ ap (λ x. x.program) c.labelled.ensures.labelled in
    cut_stop_stops c.args.setting.env c.args.setting.budget q l ss c.cut_stop.result
    (c.cut_stop.ensures c.args.setting.env c.args.setting.budget q l ss is c.in-Err.ensures.fault)

pub returns-in-Ok-put_cut-clause-text : goal.returns-in-Ok-put_cut-clause-text
returns-in-Ok-put_cut-clause-text g c =
    let q = c.args.p.now.compiled.typed.labelled in
    let l = c.args.p.now.observer in
    let ss = map seen c.args.p.now.starts.items in
    let is = c.lattice-order.ensures ∙ ap (λ x. x.order) (c.program-program.ensures.program ∙ ap (λ x. x.program) c.labelled.ensures.labelled) in
    cut_tells c.args.setting.env c.args.setting.budget q l ss c.in-Ok.report _ c.in-Ok.ensures.report
    (c.in-Ok-put_cut.ensures ∙ ap (λ z. z ++ cut_lines c.lattice-order.result.now l c.args.setting.budget c.in-Ok.report) c.new-text.ensures.items
    ∙ ap (λ o. cut_lines o l c.args.setting.budget c.in-Ok.report) is)
