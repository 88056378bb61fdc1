use Rattle.std.proofs.Common.{rules}
use Rattle.first_image.proofs.Tuning.{tuned_runs}
use Rattle.tool_stages.specs.Envs.{environment}
use Rattle.lab_tool.proofs.laws.answers_are_worth.Goals as goal

pub returns : goal.returns
returns c = record {
  enough = search rules;
  others = search rules;
  others_own = search rules;
  few = search rules;
  few_cut = search rules;
  refuted = search rules;
  tuned = λ e order. tuned_runs (environment e order);
}
