use Rattle.history_bound.proofs.Runs.{runs_by_history}
use Rattle.history_bound.proofs.laws.runs_do_as_histories.Goals as goal

pub returns : goal.returns
returns g c maker =
    runs_by_history _ (g.M.ByHistory.stands maker) _ (g.M.ByHistory.by_history maker) (g.met.M.ByHistory.does maker) (g.met.M.ByHistory.starts maker)
