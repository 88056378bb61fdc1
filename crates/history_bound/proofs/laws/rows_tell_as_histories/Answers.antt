use Rattle.history_bound.specs.Over.{AnyHistory}
use Rattle.history_bound.proofs.Told.{tell_same}
use Rattle.history_bound.proofs.laws.rows_tell_as_histories.Goals as goal

pub returns : goal.returns
returns g c maker order =
    tell_same _ (g.M.ByHistory.by_history maker order) order (g.E.MachineEnv.serves order) (AnyHistory order) (g.M.ByHistory.stands maker order)
    (g.met.M.ByHistory.does maker order) (λ e h s. (g.met.M.ByHistory.served maker order e h s, tt))
