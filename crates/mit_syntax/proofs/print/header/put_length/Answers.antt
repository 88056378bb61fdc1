use Rattle.std.proofs.Common.{sym, subst, Option, ℕ}
use Rattle.mit_syntax.specs.Layout.{Puts, length_part}
use Rattle.mit_syntax.proofs.Putting.{puts_then}
use Rattle.mit_syntax.proofs.print.header.put_length.Goals as goal

pub returns-in_ok-put_sign-in-Some-2 : goal.returns-in_ok-put_sign-in-Some-2
returns-in_ok-put_sign-in-Some-2 c =
    subst (λ (m : Option ℕ). Puts c.args.out.now.items c.put_sign-in-Some.new.out.items (length_part m)) (sym c.in-Some.is)
    (puts_then c.in_ok-put_sign-in-Some.ensures (puts_then c.in_ok-put_natural-in-Some.ensures c.in_ok-put_sign-in-Some-2.ensures))
