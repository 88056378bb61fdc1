use Rattle.tool_laws.proofs.RunAsked.{asks}
use Rattle.tool_laws.proofs.first_run.first_words_ask_for_the_run.Goals as goal

pub returns : goal.returns
returns c = asks
