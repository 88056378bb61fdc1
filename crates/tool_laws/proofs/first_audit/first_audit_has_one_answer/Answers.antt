use Rattle.tool_laws.proofs.AuditWhole.{has_one}
use Rattle.tool_laws.proofs.first_audit.first_audit_has_one_answer.Goals as goal

pub returns : goal.returns
returns c = λ content before now file starts h k n s t a. has_one c.one_answer.ensures content before now file starts h k n s t a
