use Rattle.std.proofs.Common.{subst, refl, ℕ, arith}
use Rattle.label_lattice.specs.Order.{name_of}
use Rattle.mit_syntax.specs.Layout.{Puts, a_name}
use Rattle.mit_syntax.proofs.Listing.{next_listed}
use Rattle.mit_syntax.proofs.print.header.put_names.Goals as goal

pub loop-number-preserved : goal.loop-number-preserved
loop-number-preserved c =
    let o = c.args.labels.now in
    let n = c.laws.ensures.order.named in
    let s = c.size-number-end.ensures.value in
    let t = c.loop-number-test.true in
    next_listed a_name o.names (name_of o c.loop-number.number) _ c.loop-number.number (omega (arith, n, s, t)) refl c.loop-number.invariant
    c.in_ok-put_comma_before.ensures
    (subst (λ (k : ℕ). Puts c.put_comma_before.new.out.items c.put_label.new.out.items (a_name (name_of o k))) c.new.ensures c.in_ok-put_label.ensures)
