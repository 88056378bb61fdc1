use Rattle.std.proofs.Common.{ap}
use Rattle.std.specs.Prelude.{map}
use Rattle.start_file.specs.Starts.{seen}
use Rattle.tool_stages.proofs.EnvLemmas.{named_report, named_fault}
use Rattle.lab_ready.proofs.audit.audit_in.Goals as goal

pub returns : goal.returns
returns g c =
    let p = c.args.p.now in
    let q = p.compiled.typed.labelled in
    let t = c.args.setting.budget in
    let xs = map seen c.as_slice-starts.result.now in
    let ss = map seen p.starts.items in
    let same = ap (map seen) c.as_slice-starts.ensures.value in
    let alike = c.makers_tell_as_histories.ensures.audits c.args.maker.now in
    record {
      report = named_report g.E.MachineEnv.env (g.M.MakeEnv.made c.args.maker.now) c.args.setting.env
          (g.M.MachineMaker.machine c.args.maker.now) c.requires.machine q p.compiled.image
          c.laws.ensures.shaped g.E.MachineEnv.serves alike p.observer t xs ss same c.requires.fit c.audit.result c.audit.ensures.report;
      fault = named_fault g.E.MachineEnv.env (g.M.MakeEnv.made c.args.maker.now) c.args.setting.env (g.M.MachineMaker.machine c.args.maker.now)
          c.requires.machine q p.compiled.image
          c.laws.ensures.shaped g.E.MachineEnv.serves alike p.observer t xs ss same c.requires.fit c.audit.result c.audit.ensures.fault;
    }
