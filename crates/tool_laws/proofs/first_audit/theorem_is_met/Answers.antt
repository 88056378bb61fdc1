use Rattle.tool_laws.proofs.Premises.{met}
use Rattle.tool_laws.proofs.first_audit.theorem_is_met.Goals as goal

pub returns : goal.returns
returns c = λ content h. met content h
