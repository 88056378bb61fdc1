use Rattle.std.proofs.Common.{map}
use Rattle.start_file.specs.Starts.{seen}
use Rattle.lab_leak.proofs.Opening.{open_report, open_fault}
use Rattle.lab_leak.proofs.open.audit_in.Goals as goal

pub returns : goal.returns
returns g c =
    let q = c.args.p.now in
    let t = c.args.setting.budget in
    let ss = map seen c.args.starts.now in
    let alike = c.makers_tell_as_histories.ensures.audits c.args.maker.now in
    record {
      report = open_report g.E.MachineEnv.env (g.M.MakeEnv.made c.args.maker.now) c.args.setting.env (g.M.MachineMaker.machine c.args.maker.now)
          c.requires.machine q c.args.image.now c.laws.ensures.shaped g.E.MachineEnv.serves alike c.args.observer t ss c.requires.fit c.open_audit.result
          c.open_audit.ensures.report;
      fault = open_fault g.E.MachineEnv.env (g.M.MakeEnv.made c.args.maker.now) c.args.setting.env (g.M.MachineMaker.machine c.args.maker.now)
          c.requires.machine q c.args.image.now c.laws.ensures.shaped g.E.MachineEnv.serves alike c.args.observer t ss c.requires.fit c.open_audit.result
          c.open_audit.ensures.fault;
    }
