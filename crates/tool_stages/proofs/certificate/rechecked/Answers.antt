use Rattle.tool_stages.proofs.CertificateLemmas.{rechecks}
use Rattle.tool_stages.proofs.certificate.rechecked.Goals as goal

pub returns-in-Ok-clause-ok : goal.returns-in-Ok-clause-ok
returns-in-Ok-clause-ok c = λ content told.
    rechecks c.held_labelling_types.ensures c.args.p c.in-Ok.typed.labelled c.args.bytes.now content c.laws.ensures.valid c.in-Ok.ensures.program
    c.in-Ok.ensures.certificate c.requires told

pub returns-clause-stop : goal.returns-clause-stop
returns-clause-stop c = λ content told. c.certificate_stop.ensures content c.args.bytes.now c.args.p told c.requires c.in-Err.ensures.fault
