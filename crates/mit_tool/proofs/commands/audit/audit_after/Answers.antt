use Rattle.std.proofs.Common.{ap, ◌∙◌, ◌++◌}
use Rattle.std.specs.Prelude.{map}
use Rattle.start_file.specs.Starts.{seen}
use Rattle.tool_texts.specs.Reports.{audit_lines}
use Rattle.mit_tool.proofs.AuditLemmas.{report_tells, audit_stop_stops}
use Rattle.mit_tool.proofs.commands.audit.audit_after.Goals as goal

pub returns-in-Err-clause-stop : goal.returns-in-Err-clause-stop
returns-in-Err-clause-stop g c =
    audit_stop_stops c.args.setting.env c.args.setting.budget c.args.p.now.compiled.typed.labelled c.args.p.now.observer
    (map seen c.args.p.now.starts.items) c.args.text.items
    c.in-Err.stop c.in-Err.ensures.stop

pub returns-in-Ok-put_audit-clause-text : goal.returns-in-Ok-put_audit-clause-text
returns-in-Ok-put_audit-clause-text g c =
    let q = c.args.p.now.compiled.typed.labelled in
    let l = c.args.p.now.observer in
    let ss = map seen c.args.p.now.starts.items in
    let is = c.lattice-order.ensures ∙ ap (λ x. x.order) (c.program-program.ensures.program ∙ ap (λ x. x.program) c.labelled.ensures.labelled) in
    report_tells c.args.setting.env c.args.setting.budget q l ss c.args.text.items c.in-Ok.report _ c.in-Ok.ensures.report
    (c.in-Ok-put_audit.ensures ∙ ap (λ o. c.args.text.items ++ audit_lines o l c.args.setting.budget c.in-Ok.report) is)
