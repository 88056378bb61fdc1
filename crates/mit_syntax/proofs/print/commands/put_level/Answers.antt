use Rattle.std.proofs.Common.{sym, subst, Option}
use Rattle.label_lattice.specs.declared.label.Label.{Label}
use Rattle.mit_syntax.specs.Layout.{Puts, level_part}
use Rattle.mit_syntax.proofs.Putting.{puts_then}
use Rattle.mit_syntax.proofs.print.commands.put_level.Goals as goal

pub returns-in_ok-put_label-in-Some : goal.returns-in_ok-put_label-in-Some
returns-in_ok-put_label-in-Some c =
    subst (λ (m : Option Label). Puts c.args.out.now.items c.put_label.new.out.items (level_part c.args.labels.now m)) (sym c.in-Some.is)
    (puts_then c.in_ok-put_comma-in-Some.ensures c.in_ok-put_label-in-Some.ensures)
