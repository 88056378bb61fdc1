use Rattle.std.proofs.Common.{sym, ap, ◌∙◌, ◌++◌}
use Rattle.std.specs.Prelude.{codes}
use Rattle.type_cert.proofs.Cuts.{past_name, at_variable, cut_label}
use Rattle.type_cert.proofs.read.variable.Goals as goal

pub returns-in_err-label : goal.returns-in_err-label
returns-in_err-label c =
    let o = c.args.order.now in
    let ok = c.laws.ensures.order in
    let w = c.args.name in
    let text = c.args.text.now in
    let r0 = c.in_ok-rest.rest.now in
    let r1 = c.in_ok-rest-2.rest.now in
    let e = c.in_ok-rest-2.ensures ∙ ap (λ z. z ++ r1) c.bytes.ensures.value in
    rw c.from_residual-in_err-label.ensures
    (λ l q h. c.in_err-label.ensures l (codes "\n" ++ q) (at_variable o ok w text l q h r1 (past_name o ok w text l q h r0 r1 c.in_ok-rest.ensures e)))

pub returns-in_err-rest-3 : goal.returns-in_err-rest-3
returns-in_err-rest-3 c =
    let o = c.args.order.now in
    let ok = c.laws.ensures.order in
    let w = c.args.name in
    let text = c.args.text.now in
    let r0 = c.in_ok-rest.rest.now in
    let r1 = c.in_ok-rest-2.rest.now in
    let r2 = c.in_ok-label.rest.now in
    let e = c.in_ok-rest-2.ensures ∙ ap (λ z. z ++ r1) c.bytes.ensures.value in
    rw c.from_residual-in_err-rest-3.ensures (λ l q h.
    let at = at_variable o ok w text l q h r1 (past_name o ok w text l q h r0 r1 c.in_ok-rest.ensures e) in
    let z = cut_label o ok (codes " ") r1 l c.in_ok-label.label (codes "\n" ++ q) r2 at c.in_ok-label.ensures in
    c.in_err-rest-3.ensures q (sym z.1))
