use Rattle.std.proofs.Common.{◌≡◌, ◌<◌, ◌≤◌, ◌⊎◌, ◌*◌, ◌^◌, inl, inr, subst, arith, map}
use Rattle.start_file.specs.Starts.{seen}
use Rattle.leak_audit.specs.declared.report.AuditFault.TheVariants.{Disagree, Unfinished, TooMuch}
use Rattle.tool_stages.specs.Envs.{AuditFaultsIn}
use Rattle.lab_ready.proofs.Trying.{tried, last}
use Rattle.lab_ready.proofs.budget.budget_told.Goals.{then-loop-left-test+else-budget, else-loop-left-test}
use Rattle.lab_ready.proofs.budget.budget_told.Goals as goal

pub returns-in-Ok : goal.returns-in-Ok
returns-in-Ok g c =
    let t = c.loop-left.budget in
    let lt : 0 < c.loop-left.left = c.loop-left-test.true in
    let le : t * 2 ≤ 2 ^ 40 = omega (arith, c.if-budget.true) in
    c.loop-left.invariant.1 c.enough.result (tried c.args.setting.env c.args.p.now.compiled.typed.labelled c.args.p.now.observer.number
    (map seen c.args.p.now.starts.items) c.loop-left.left t c.enough.result lt le (inl (c.in-Ok.field-0, c.in-Ok.ensures.report, c.enough.ensures)))

pub loop-left-preserved : goal.loop-left-preserved
loop-left-preserved g c =
    let t = c.loop-left.budget in
    let q = c.args.p.now.compiled.typed.labelled in
    let ss = map seen c.args.p.now.starts.items in
    let lt : 0 < c.loop-left.left = c.loop-left-test.true in
    let le : t * 2 ≤ 2 ^ 40 = omega (arith, c.if-budget.true) in
    let some : 1 ≤ t = c.loop-left.invariant.0.0 in
    let is = subst (AuditFaultsIn c.args.setting.env q c.args.p.now.observer.number (t * 2) ss) c.in-Err-Unfinished.field-0-is
    c.in-Err-Unfinished.ensures.fault in (
      (omega (arith, some), le),
      λ x h. c.loop-left.invariant.1 x (tried c.args.setting.env q c.args.p.now.observer.number ss c.loop-left.left t x lt le
          (inr (Unfinished c.in-Err-Unfinished.field-0-0 c.in-Err-Unfinished.field-0-1, is, h))),
    )

pub returns-in-Err-TooMuch : goal.returns-in-Err-TooMuch
returns-in-Err-TooMuch g c =
    let t = c.loop-left.budget in
    let q = c.args.p.now.compiled.typed.labelled in
    let ss = map seen c.args.p.now.starts.items in
    let lt : 0 < c.loop-left.left = c.loop-left-test.true in
    let le : t * 2 ≤ 2 ^ 40 = omega (arith, c.if-budget.true) in
    let is = subst (AuditFaultsIn c.args.setting.env q c.args.p.now.observer.number (t * 2) ss) c.in-Err-TooMuch.field-0-is c.in-Err-TooMuch.ensures.fault in
    c.loop-left.invariant.1 c.not_enough.result (tried c.args.setting.env q c.args.p.now.observer.number ss c.loop-left.left t c.not_enough.result lt le
    (inr (TooMuch c.in-Err-TooMuch.field-0-0, is, c.not_enough.ensures)))

pub returns-in-Err-Disagree : goal.returns-in-Err-Disagree
returns-in-Err-Disagree g c =
    let t = c.loop-left.budget in
    let q = c.args.p.now.compiled.typed.labelled in
    let ss = map seen c.args.p.now.starts.items in
    let lt : 0 < c.loop-left.left = c.loop-left-test.true in
    let le : t * 2 ≤ 2 ^ 40 = omega (arith, c.if-budget.true) in
    let is = subst (AuditFaultsIn c.args.setting.env q c.args.p.now.observer.number (t * 2) ss) c.in-Err-Disagree.field-0-is c.in-Err-Disagree.ensures.fault in
    c.loop-left.invariant.1 c.not_enough-in-Err-Disagree.result (tried c.args.setting.env q c.args.p.now.observer.number ss c.loop-left.left t
    c.not_enough-in-Err-Disagree.result lt le
    (inr (Disagree c.in-Err-Disagree.field-0-0 c.in-Err-Disagree.field-0-1, is, c.not_enough-in-Err-Disagree.ensures)))

pub returns : goal.returns
returns g c =
    let t = c.loop-left.budget in
    let over : (c.loop-left.left ≡ 0) ⊎ (2 ^ 40 < t * 2) = elim c.loop-left-test.branch [
      | then-loop-left-test+else-budget w ↦ inr (omega (arith, w.if-budget))
      | else-loop-left-test w ↦ inl (omega (arith, w.loop-left-test))
    ] in
    c.loop-left.invariant.1 c.not_enough-2.result (last c.args.setting.env c.args.p.now.compiled.typed.labelled c.args.p.now.observer.number
    (map seen c.args.p.now.starts.items) c.loop-left.left t c.not_enough-2.result over c.not_enough-2.ensures)
