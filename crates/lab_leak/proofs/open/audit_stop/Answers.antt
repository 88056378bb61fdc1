use Rattle.std.proofs.Common.{ap, subst, ◌∙◌}
use Rattle.tool_texts.specs.Reports.{disagree_line}
use Rattle.tool_stages.specs.Envs.{AuditFaultsIn}
use Rattle.lab_leak.proofs.open.audit_stop.Goals as goal

pub returns-in-Disagree : goal.returns-in-Disagree
returns-in-Disagree c = λ e t q l ss is h. (
  c.in-Disagree.run',
  c.in-Disagree.what,
  subst (AuditFaultsIn e q l.number t ss) c.in-Disagree.is h,
  c.disagree.ensures ∙ ap (λ p. disagree_line p c.in-Disagree.run' c.in-Disagree.what) is,
)

pub returns-in-Unfinished : goal.returns-in-Unfinished
returns-in-Unfinished c = λ e t q l ss is h.
    (c.in-Unfinished.run', c.in-Unfinished.cycle, subst (AuditFaultsIn e q l.number t ss) c.in-Unfinished.is h, c.unfinished.ensures)

pub returns-in-TooMuch : goal.returns-in-TooMuch
returns-in-TooMuch c = λ e t q l ss is h.
    (c.in-TooMuch.count, subst (AuditFaultsIn e q l.number t ss) c.in-TooMuch.is h, c.too_long_events.ensures)
