use Rattle.std.proofs.Common.{◌+◌, map, drop}
use Rattle.start_file.specs.Starts.{seen}
use Rattle.leak_audit.specs.Agreement.{start_of, starts_of}
use Rattle.leak_audit.proofs.Agreeing.{AgreeTo}
use Rattle.leak_audit.proofs.agreement.all_agree.Given as goal

abbrev pub invariant-loop-i : goal.invariant-loop-i
invariant-loop-i g l =
    let ss = starts_of (g.M.MakeEnv.made l.make) l.p.program.order (map seen l.starts) in
    AgreeTo g.E.MachineEnv.env g.E.MachineEnv.serves l.p l.observer.number
    (start_of (g.M.MakeEnv.made l.make) l.p.program.order (seen l.first)) ss (drop l.i ss) (l.i + 1)
