use Rattle.tool_laws.proofs.AuditWhole.{can_be_done}
use Rattle.tool_laws.proofs.first_audit.first_audit_can_be_done.Goals as goal

pub returns : goal.returns
returns c = λ content file starts h k. can_be_done content file starts h k
