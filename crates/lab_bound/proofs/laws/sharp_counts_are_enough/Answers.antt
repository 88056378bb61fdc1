use Rattle.tool_stages.specs.Envs.{environment}
use Rattle.lab_bound.proofs.Enough.{all_enough}
use Rattle.lab_bound.proofs.laws.sharp_counts_are_enough.Goals as goal

pub returns : goal.returns
returns c =
    all_enough (λ e own. c.lowered_few_sequences_sharp_of_histories.ensures.halted (environment e) (c.partitioned_keep_the_laws.ensures.laws e own))
    (λ e own. c.lowered_few_sequences_sharp_of_histories.ensures.ended (environment e) (c.partitioned_keep_the_laws.ensures.laws e own))
    (λ e own. c.lowered_few_sequences_sharp_of_histories.ensures.shared (environment e) (c.partitioned_keep_the_laws.ensures.laws e own))
    (λ e own. c.lowered_few_sequences_own_of_histories.ensures (environment e) (c.partitioned_keep_the_laws.ensures.laws e own))
