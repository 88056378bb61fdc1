use Rattle.lab_tool.proofs.OneAnswer.{answers_one}
use Rattle.lab_tool.proofs.laws.one_answer.Goals as goal

pub returns : goal.returns
returns c = answers_one
