use Rattle.std.proofs.Common.{◌∙◌, ap, ◌++◌}
use Rattle.std.specs.Prelude.{codes}
use Rattle.flow_print.specs.Places.{noun}
use Rattle.flow_print.specs.Lines.{place_text, line}
use Rattle.flow_print.proofs.lines.put_time.Goals as goal

pub returns : goal.returns
returns c =
    c.in_ok-put_about_at.ensures
    ∙ ap (λ z. c.args.out.now.items ++ (place_text c.args.q ++ (codes "so how long this " ++ (z ++ line (codes " takes is ") c.args.first.now))))
    (c.noun-command.ensures ∙ ap noun c.kind_at.ensures)
