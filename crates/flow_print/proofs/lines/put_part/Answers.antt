use Rattle.std.proofs.Common.{◌∙◌, ap, sym, ◌++◌}
use Rattle.flow_path.specs.declared.step.How.{How}
use Rattle.flow_print.specs.Lines.{part_lines}
use Rattle.flow_print.proofs.lines.put_part.Goals as goal

pub returns-in_ok-put_two_at-in-AfterAssigning : goal.returns-in_ok-put_two_at-in-AfterAssigning
returns-in_ok-put_two_at-in-AfterAssigning c =
    let s = c.args.spelling.now in
    c.in_ok-put_two_at-in-AfterAssigning.ensures
    ∙ sym (ap (λ (h : How). c.args.out.now.items ++ part_lines s.text.now s.tokens.now h c.args.q c.args.name.now c.args.first.now)
    c.in-AfterAssigning.is)
