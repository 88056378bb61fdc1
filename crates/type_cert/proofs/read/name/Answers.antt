use Rattle.std.proofs.Common.{◌≡◌, sym, ◌∙◌, true, false}
use Rattle.type_cert.proofs.Cuts.{front_is, front_named, front_reads}
use Rattle.type_cert.proofs.read.name.Goals as goal

apart : false ≡ true → ⊥
apart e = cc

pub returns-in_err-name : goal.returns-in_err-name
returns-in_err-name c =
    let e = c.name_len-n.ensures in
    rw c.from_residual.ensures (λ l q h. apart
    (c.in_err-name.ensures.names.1 (front_named c.args.order.now c.laws.ensures.order c.args.text.now c.name_len-n.result e.within e.before e.stops l q h)))

pub returns-in_err-label : goal.returns-in_err-label
returns-in_err-label c =
    let e = c.name_len-n.ensures in
    rw c.from_residual-in_err-label.ensures (λ l q h.
    let f = front_is c.args.order.now c.laws.ensures.order c.args.text.now c.name_len-n.result e.within e.before e.stops l q h in
    c.in_err-label.ensures l.number h.below (sym f.0 ∙ sym c.in_ok-name.ensures.text))

pub returns : goal.returns
returns c =
    let e = c.name_len-n.ensures in
    front_reads c.args.order.now c.laws.ensures.order c.args.text.now c.name_len-n.result e.within e.before e.stops c.in_ok-label.label c.in_ok-name.name
    c.in_ok-label.ensures.0 c.in_ok-label.ensures.1 c.in_ok-name.ensures.text
