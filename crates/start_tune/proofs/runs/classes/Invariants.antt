use Rattle.std.proofs.Common.{map}
use Rattle.start_file.specs.Starts.{seen}
use Rattle.start_tune.proofs.Walking.{Walked}
use Rattle.start_tune.proofs.runs.classes.Given as goal

abbrev pub invariant-loop-start : goal.invariant-loop-start
invariant-loop-start g l = Walked g.E.MachineEnv.env (g.M.MakeEnv.made l.maker) l.limit l.image (map seen l.starts) l.start-index l.known
