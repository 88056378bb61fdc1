use Rattle.std.proofs.Common.{◌+◌, map, drop}
use Rattle.start_file.specs.Starts.{seen}
use Rattle.leak_audit.specs.Agreement.{starts_of}
use Rattle.open_audit.proofs.Keeping.{Keeping}
use Rattle.open_audit.proofs.runs.keep_runs.Given as goal

abbrev pub invariant-loop-i : goal.invariant-loop-i
invariant-loop-i g l =
    let ss = starts_of (g.M.MakeEnv.made l.make) l.p.program.order (map seen l.starts) in
    Keeping g.E.MachineEnv.env l.p l.label.number l.limit ss (drop l.i ss) (l.i + 1) l.kept
