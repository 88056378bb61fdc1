use Rattle.std.proofs.Common.{subst}
use Rattle.std.proofs.lemmas.Bool.{both_ways}
use Rattle.label_lattice.specs.Order.{lattice_of}
use Rattle.type_cert.specs.Certificate.{line_at}
use Rattle.type_cert.specs.Demands.{Meets}
use Rattle.type_cert.proofs.Cuts.{cut_line}
use Rattle.type_cert.proofs.recheck.right_line.Goals as goal

pub returns : goal.returns
returns c = λ x q h m.
    let o = c.args.order.now in
    let e = cut_line o c.laws.ensures.order c.args.number c.args.place.now.act c.args.text.now x c.in_ok-line.line q
    c.in_ok-line.rest.now h c.in_ok-line.ensures in
    both_ways c.meets.result c.if-meets.false
    (c.meets.ensures.1 (subst (λ z. Meets (lattice_of o) (line_at o.bottom c.args.lines.now) c.args.place.now z) e.0 m))
