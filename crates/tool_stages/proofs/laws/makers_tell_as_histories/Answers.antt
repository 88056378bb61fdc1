use Rattle.std.proofs.Common.{subst}
use Rattle.std.specs.Prelude.{List}
use Rattle.label_lattice.specs.Order.{Order}
use Rattle.env_contract.specs.Env.{Env}
use Rattle.env_contract.specs.declared.place.Touch.{Touch}
use Rattle.history_bound.specs.Over.{AnyHistory, history_made}
use Rattle.history_reports.specs.Reports.{RunsTellAlike, AuditsTellAlike}
use Rattle.tool_stages.proofs.laws.makers_tell_as_histories.Goals as goal

pub returns-clause-runs : goal.returns-clause-runs
returns-clause-runs g c maker =
    subst (λ (w : Order → Env (List Touch)). RunsTellAlike g.E.MachineEnv.env (g.M.MakeEnv.made maker) w history_made)
    (g.met.M.MachineMaker.means maker) (c.reports_are_the_same.ensures.runs maker)

pub returns-clause-audits : goal.returns-clause-audits
returns-clause-audits g c maker =
    subst (λ (w : Order → Env (List Touch)). AuditsTellAlike g.E.MachineEnv.env (g.M.MakeEnv.made maker) w history_made g.E.MachineEnv.serves AnyHistory)
    (g.met.M.MachineMaker.means maker) (c.reports_are_the_same.ensures.audits maker)
