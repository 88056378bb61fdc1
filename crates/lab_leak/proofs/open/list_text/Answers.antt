use Rattle.std.proofs.Common.{ap, length, map, arith, sym, subst}
use Rattle.start_file.specs.Starts.{seen}
use Rattle.lab_leak.specs.Views.{HasClassesIn}
use Rattle.lab_leak.proofs.Opening.{as_many_classes}
use Rattle.lab_leak.proofs.open.list_text.Goals as goal

pub returns-in-Err-clause-stop : goal.returns-in-Err-clause-stop
returns-in-Err-clause-stop g c =
    c.audit_stop.ensures c.args.setting.env c.args.setting.budget c.args.p.now c.args.observer (map seen c.args.starts.now) c.program.ensures.program
    c.in-Err.ensures.fault

pub told_text-requires-clause-few : goal.told_text-requires-clause-few
told_text-requires-clause-few g c =
    let ss = map seen c.args.starts.now in
    let many = as_many_classes c.args.setting.env c.args.p.now c.args.observer.number c.args.setting.budget ss c.in-Ok.classes.items
    c.in-Ok.ensures.report in
    let few = c.requires.fit.few in
    omega (arith, ap length c.as_slice.ensures.value, many, few)

pub told_text-requires-clause-reported : goal.told_text-requires-clause-reported
told_text-requires-clause-reported g c =
    subst (HasClassesIn c.args.setting.env c.args.p.now c.args.observer.number c.args.setting.budget (map seen c.args.starts.now))
    (sym c.as_slice.ensures.value) c.in-Ok.ensures.report
