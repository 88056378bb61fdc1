use Rattle.tool_stages.specs.Envs.{environment}
use Rattle.tool_stages.proofs.laws.typed_are_sound.Goals as goal

pub returns : goal.returns
returns c = λ q typed e is.
    let laws = c.partitioned_keep_the_laws.ensures.laws e is in
    record {
      halted = c.lowered_few_sequences_of_histories.ensures.halted (environment e) laws q typed;
      cut = c.lowered_few_sequences_of_histories.ensures.cut (environment e) laws q typed;
    }
