use Rattle.std.proofs.Common.{◌≡◌, length, map, subst, Some, arith}
use Rattle.start_file.specs.Starts.{seen}
use Rattle.lab_why.specs.declared.starts.Told.{Told}
use Rattle.tool_stages.specs.Envs.{AuditFaultsIn}
use Rattle.lab_ready.specs.Answer.{AuditTold}
use Rattle.lab_ready.proofs.ReadyLemmas.{report_told, apart_told, unfinished_told, shown_told, moved}
use Rattle.lab_ready.proofs.ready.audit_told.Goals.{in-Ok+in_ok-text-in-Ok, in-Err-Disagree, in-Err-Unfinished+in_ok-more-in-Err-Unfinished, in-Err-TooMuch}
use Rattle.lab_ready.proofs.ready.audit_told.Goals.{in-Err-Memory}
use Rattle.lab_ready.proofs.ready.audit_told.Goals as goal

pub returns : goal.returns
returns g c =
    let e = c.args.setting.env in
    let t = c.args.setting.budget in
    let q = c.args.p.now.compiled.typed.labelled in
    let l = c.args.p.now.observer in
    let ss = map seen c.args.p.now.starts.items in
    let told = λ (x : Told). AuditTold e t q (Some l) ss x.status x.text.items in
    let r = c.match-audit_of.result in
    elim c.match-audit_of.branch [
      | in-Ok+in_ok-text-in-Ok w ↦
          let many : w.len.result ≡ length c.args.p.now.starts.items = omega (arith, w.len.ensures, c.args.p.now.starts.ok.0) in
          moved told r _ w.result-is (report_told e t q w.labelled.result.now l c.args.p.now.starts.items w.len.result w.in-Ok.field-0
          w.in_ok-text-in-Ok.text.items w.in-Ok.ensures.report w.labelled.ensures.labelled many w.in_ok-text-in-Ok.ensures)
      | in-Err-Disagree w ↦
          moved told r w.apart.result w.result-is (apart_told e t q l ss w.in-Err-Disagree.run' w.in-Err-Disagree.what w.apart.result
          (subst (AuditFaultsIn e q l.number t ss) w.in-Err-Disagree.field-0-is w.in-Err-Disagree.ensures.fault) w.apart.ensures.status w.apart.ensures.text)
      | in-Err-Unfinished+in_ok-more-in-Err-Unfinished w ↦
          moved told r w.told.result w.result-is (unfinished_told e t q l ss w.in-Err-Unfinished.run' w.in-Err-Unfinished.cycle w.unfinished.result
          w.in_ok-more-in-Err-Unfinished.more w.bytes.result.now w.told.result
          (subst (AuditFaultsIn e q l.number t ss) w.in-Err-Unfinished.field-0-is w.in-Err-Unfinished.ensures.fault) w.in_ok-more-in-Err-Unfinished.ensures
          w.unfinished.ensures w.bytes.ensures w.told.ensures.status w.told.ensures.text)
      | in-Err-TooMuch w ↦
          moved told r w.told-in-Err-TooMuch.result w.result-is (shown_told e t q l ss w.in-Err-TooMuch.count w.too_long_events.result w.most_shown.result.now
          w.told-in-Err-TooMuch.result (subst (AuditFaultsIn e q l.number t ss) w.in-Err-TooMuch.field-0-is w.in-Err-TooMuch.ensures.fault)
          w.too_long_events.ensures w.most_shown.ensures w.told-in-Err-TooMuch.ensures.status w.told-in-Err-TooMuch.ensures.text)
      | in-Err-Memory w ↦ moved told r _ w.result-is tt
    ]
