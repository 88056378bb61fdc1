use Rattle.history_bound.specs.Over.{AnyHistory}
use Rattle.tool_stages.specs.declared.envs.Environment.TheVariants.{Named}
use Rattle.tool_stages.specs.Envs.{environment}
use Rattle.lab_steady.proofs.Worthy.{worth}
use Rattle.lab_steady.proofs.laws.yes_is_worth_in_named.Goals as goal

pub returns : goal.returns
returns c = λ e.
    let laws = c.partitioned_keep_the_laws.ensures in
    worth (environment (Named e)) AnyHistory (laws.laws (Named e) (laws.named e))
