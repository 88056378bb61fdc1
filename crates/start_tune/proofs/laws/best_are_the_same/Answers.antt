use Rattle.history_bound.specs.Over.{history_made}
use Rattle.start_tune.proofs.Alike.{best_alike}
use Rattle.start_tune.proofs.laws.best_are_the_same.Goals as goal

pub returns : goal.returns
returns g c maker =
    best_alike _ _ (g.M.ByHistory.by_history maker) history_made (g.M.ByHistory.stands maker) (g.met.M.ByHistory.does maker)
    (g.met.M.ByHistory.starts maker)
