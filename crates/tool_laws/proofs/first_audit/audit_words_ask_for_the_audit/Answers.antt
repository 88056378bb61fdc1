use Rattle.tool_laws.proofs.AuditAsked.{asks}
use Rattle.tool_laws.proofs.first_audit.audit_words_ask_for_the_audit.Goals as goal

pub returns : goal.returns
returns c = asks
