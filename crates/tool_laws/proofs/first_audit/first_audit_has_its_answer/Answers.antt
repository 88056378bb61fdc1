use Rattle.std.specs.Prelude.{List, ℕ}
use Rattle.tim_base.specs.Faults.{Rose}
use Rattle.tool_laws.proofs.AuditWhole.{has_answer}
use Rattle.tool_laws.proofs.first_audit.first_audit_has_its_answer.Goals as goal

pub returns : goal.returns
returns c = λ content before now file starts h k. has_answer (λ (name : List ℕ). Rose (before name) (now name)) content file starts h k
