use Rattle.history_bound.specs.Over.{AnyHistory, history_made}
use Rattle.history_reports.proofs.Alike.{runs_tell_alike, audits_tell_alike}
use Rattle.history_reports.proofs.laws.reports_are_the_same.Goals as goal

pub returns-clause-runs : goal.returns-clause-runs
returns-clause-runs g c maker =
    runs_tell_alike _ _ (g.M.ByHistory.by_history maker) history_made (g.M.ByHistory.stands maker) (g.met.M.ByHistory.does maker)
    (g.met.M.ByHistory.starts maker)

pub returns-clause-audits : goal.returns-clause-audits
returns-clause-audits g c maker =
    audits_tell_alike _ _ (g.M.ByHistory.by_history maker) history_made (g.M.ByHistory.stands maker) (g.met.M.ByHistory.does maker)
    (g.met.M.ByHistory.starts maker) _ AnyHistory (λ order e h s. (g.met.M.ByHistory.served maker order e h s, tt))
