use Rattle.tool_stages.specs.Envs.{environment}
use Rattle.lab_bound.proofs.Others.{all_bound_others_own}
use Rattle.lab_bound.proofs.laws.own_counts_bound_others.Goals as goal

pub returns : goal.returns
returns c = all_bound_others_own (λ e own. c.lowered_few_sequences_own_of_histories.ensures (environment e) (c.partitioned_keep_the_laws.ensures.laws e own))
