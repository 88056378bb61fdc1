use Rattle.type_cert.proofs.Cuts.{behind, before_it}
use Rattle.type_cert.proofs.read.label.Goals as goal

pub returns-in_err-label : goal.returns-in_err-label
returns-in_err-label c =
    rw c.from_residual-in_err-label.ensures
    (λ l q h. c.in_err-label.ensures l q (behind c.args.order.now c.args.word.now c.args.text.now c.in_ok-rest.rest.now l q c.in_ok-rest.ensures h))

pub returns : goal.returns
returns c =
    before_it c.args.order.now c.args.word.now c.args.text.now c.in_ok-rest.rest.now c.in_ok-label.label c.in_ok-label.rest.now
    c.in_ok-rest.ensures c.in_ok-label.ensures
