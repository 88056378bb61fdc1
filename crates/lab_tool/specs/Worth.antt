-- What the answers are worth, beside that they are the answers.
use Rattle.label_lattice.specs.Order.{Order}
use Rattle.first_image.specs.Tuned.{TunedRuns}
use Rattle.tool_stages.specs.declared.envs.Environment.{Environment}
use Rattle.tool_stages.specs.Envs.{environment}
use Rattle.lab_bound.specs.Enough.{AllAreEnough}
use Rattle.lab_bound.specs.Others.{AllBoundOthers, AllBoundOthersOwn}
use Rattle.lab_seen.specs.Bounded.{FieldsAreFew, FieldsAreWithinCut}
use Rattle.lab_why.specs.Refuting.{ChainsRefute}

pub record AnswersAreWorth : Type 0 where
  -- the numbers of `bound` and `leak` are enough for the starts of a file
  pub enough : AllAreEnough
  -- and for these with all others that begin no relevant mitigation with a lesser first prediction
  pub others : AllBoundOthers
  pub others_own : AllBoundOthersOwn
  -- `seen` writes no more different fields than the bound, or the one of runs that are cut, says
  pub few : FieldsAreFew
  pub few_cut : FieldsAreWithinCut
  -- a chain of `why` refutes every labelling
  pub refuted : ChainsRefute
  -- what `tune` tells of runs is so of the code that has the other number
  pub tuned : (e : Environment) (order : Order) → TunedRuns (environment e order)
