use Rattle.std.proofs.Common.{map}
use Rattle.env_contract.specs.Env.{Env}
use Rattle.start_file.specs.Starts.{seen}
use Rattle.leak_audit.specs.Agreement.{starts_of}
use Rattle.open_audit.proofs.Opening.{has_report}
use Rattle.open_audit.proofs.audit.open_audit.Goals as goal

pub returns-clause-report : goal.returns-clause-report
returns-clause-report g c =
    let v : Env g.row.E.Denot = g.E.MachineEnv.env in
    let p = c.args.p.now in
    let ss = starts_of (g.M.MakeEnv.made c.args.make.now) p.program.order (map seen c.args.starts.now) in
    has_report v g.E.MachineEnv.serves p c.args.observer.number c.args.limit (c.image_keeps_order.ensures v p) ss c.in_ok-kept.kept
    c.in_ok-all_agree.ensures.agree c.in_ok-kept.ensures.kept
