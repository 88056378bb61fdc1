use Rattle.std.proofs.Common.{sym, subst, Option}
use Rattle.label_lattice.specs.declared.label.Label.{Label}
use Rattle.mit_syntax.specs.Layout.{Puts, marks_part}
use Rattle.mit_syntax.proofs.Putting.{puts_then}
use Rattle.mit_syntax.proofs.print.commands.put_marks.Goals as goal

pub returns-in_ok-put_sign-in-Some-3 : goal.returns-in_ok-put_sign-in-Some-3
returns-in_ok-put_sign-in-Some-3 c =
    subst (λ (m : Option (Label × Label)). Puts c.args.out.now.items c.put_sign-in-Some-2.new.out.items (marks_part c.args.labels.now m)) (sym c.in-Some.is)
    (puts_then c.in_ok-put_space-in-Some.ensures (puts_then c.in_ok-put_sign-in-Some.ensures (puts_then c.in_ok-put_sign-in-Some-2.ensures
    (puts_then c.in_ok-put_label-in-Some.ensures
    (puts_then c.in_ok-put_comma-in-Some.ensures (puts_then c.in_ok-put_label-in-Some-2.ensures c.in_ok-put_sign-in-Some-3.ensures))))))
