use Rattle.tool_laws.proofs.RunEnded.{run_ends}
use Rattle.tool_laws.proofs.first_run.first_run_ends_with_its_answer.Goals as goal

pub returns : goal.returns
returns c = λ content before now file budget h k n old new s e w. run_ends c.one_answer.ensures content before now file budget h k n old new s e w
