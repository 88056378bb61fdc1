use Rattle.std.proofs.Common.{subst}
use Rattle.std.specs.Prelude.{List}
use Rattle.label_lattice.specs.Order.{Order}
use Rattle.env_contract.specs.Env.{Env}
use Rattle.env_contract.specs.declared.place.Touch.{Touch}
use Rattle.history_bound.specs.Over.{history_made}
use Rattle.lab_timeline.specs.Alike.{TimelinesTellAlike}
use Rattle.lab_timeline.proofs.Alike.{timelines_tell_alike}
use Rattle.lab_timeline.proofs.laws.timelines_are_the_same.Goals as goal

pub returns : goal.returns
returns g c maker =
    subst (λ (w : Order → Env (List Touch)). TimelinesTellAlike g.E.MachineEnv.env (g.M.MakeEnv.made maker) w history_made) (g.met.M.MachineMaker.means maker)
    (timelines_tell_alike _ _ (g.M.ByHistory.by_history maker) history_made (g.M.ByHistory.stands maker) (g.met.M.ByHistory.does maker)
    (g.met.M.ByHistory.starts maker))
