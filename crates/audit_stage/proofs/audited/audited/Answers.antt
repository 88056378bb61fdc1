use Rattle.std.proofs.Common.{ap, ◌∙◌, map}
use Rattle.start_file.specs.Starts.{seen}
use Rattle.audit_stage.proofs.audited.audited.Goals as goal

pub returns-in-Err-clause-stop : goal.returns-in-Err-clause-stop
returns-in-Err-clause-stop g c =
    let q = c.args.p.now.compiled.typed.labelled in
    let is = c.program-program.ensures.program ∙ ap (λ x. x.program) c.labelled.ensures.labelled in
    c.audit_stop.ensures c.args.setting.env c.args.setting.budget q c.args.p.now.observer (map seen c.args.p.now.starts.items) is c.in-Err.ensures.fault
