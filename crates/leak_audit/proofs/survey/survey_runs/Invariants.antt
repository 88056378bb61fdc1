use Rattle.std.proofs.Common.{◌+◌, map, drop}
use Rattle.start_file.specs.Starts.{seen}
use Rattle.leak_audit.specs.Agreement.{starts_of}
use Rattle.leak_audit.proofs.Surveying.{Surveying}
use Rattle.leak_audit.proofs.survey.survey_runs.Given as goal

abbrev pub invariant-loop-i : goal.invariant-loop-i
invariant-loop-i g l =
    let ss = starts_of (g.M.MakeEnv.made l.make) l.p.program.order (map seen l.starts) in
    Surveying g.E.MachineEnv.env l.p l.request.observer.number l.request.limit l.request.must_halt ss (drop l.i ss) (l.i + 1) l.survey
