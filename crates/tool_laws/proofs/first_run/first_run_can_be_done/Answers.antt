use Rattle.tool_laws.proofs.RunWhole.{can_be_done}
use Rattle.tool_laws.proofs.first_run.first_run_can_be_done.Goals as goal

pub returns : goal.returns
returns c = λ content file budget h k. can_be_done content file budget h k
