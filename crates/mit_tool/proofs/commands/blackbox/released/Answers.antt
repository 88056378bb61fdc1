use Rattle.std.proofs.Common.{ap, ◌∙◌, ◌++◌}
use Rattle.std.specs.Prelude.{map}
use Rattle.black_box.specs.Files.{ready_lists}
use Rattle.black_box.specs.Outcomes.{seen}
use Rattle.tool_texts.specs.Reports.{box_text}
use Rattle.mit_tool.proofs.BoxLemmas.{box_tells}
use Rattle.mit_tool.proofs.commands.blackbox.released.Goals as goal

pub returns-in-Ok : goal.returns-in-Ok
returns-in-Ok c =
    let a = c.in_ok-audit.audit in
    box_tells c.args.first c.args.budget c.args.all.now a c.put_box.new.text.items c.in_ok-audit.ensures.runs c.in_ok-audit.ensures.distinct
    c.in_ok-audit.ensures.classes
    c.in_ok-audit.ensures.base c.in_ok-audit.ensures.exponent
    (c.in-Ok.ensures ∙ ap (λ z. z ++ box_text c.args.first c.args.budget (ready_lists c.args.all.now) (map seen a.runs.items) a.distinct a.base a.exponent
    a.classes.items) c.new-text.ensures.items)
