use Rattle.std.proofs.Common.{rules, ◌≡◌, ap, sym, ◌∙◌, ◌++◌}
use Rattle.std.specs.Prelude.{decimal}
use Rattle.timing_types.specs.Rules.{rule_name}
use Rattle.type_cert.proofs.Cuts.{head_parts, head_rule, head_from}
use Rattle.type_cert.proofs.read.head.Goals as goal

pub returns-in_err-rest-2 : goal.returns-in_err-rest-2
returns-in_err-rest-2 c =
    let d : c.as_bytes.result.now ≡ decimal c.args.number = search rules in
    let r0 = c.in_ok-rest.rest.now in
    let e0 = c.in_ok-rest.ensures ∙ ap (λ z. z ++ r0) d in
    rw c.from_residual-in_err-rest-2.ensures
    (λ q h. c.in_err-rest-2.ensures (rule_name c.args.rule ++ q) (head_parts c.args.number c.args.rule c.args.text.now r0 q e0 h))

pub returns-in_err-rest-3 : goal.returns-in_err-rest-3
returns-in_err-rest-3 c =
    let d : c.as_bytes.result.now ≡ decimal c.args.number = search rules in
    let r0 = c.in_ok-rest.rest.now in
    let r1 = c.in_ok-rest-2.rest.now in
    let e0 = c.in_ok-rest.ensures ∙ ap (λ z. z ++ r0) d in
    rw c.from_residual-in_err-rest-3.ensures (λ q h. c.in_err-rest-3.ensures q
    (head_rule c.args.rule r0 r1 q c.in_ok-rest-2.ensures (head_parts c.args.number c.args.rule c.args.text.now r0 q e0 h)
    ∙ ap (λ z. z ++ q) (sym c.name.ensures.name)))

pub returns : goal.returns
returns c =
    let d : c.as_bytes.result.now ≡ decimal c.args.number = search rules in
    let r0 = c.in_ok-rest.rest.now in
    let r1 = c.in_ok-rest-2.rest.now in
    let r2 = c.in_ok-rest-3.rest.now in
    head_from c.args.number c.args.rule c.args.text.now r0 r1 r2 (c.in_ok-rest.ensures ∙ ap (λ z. z ++ r0) d) c.in_ok-rest-2.ensures (c.in_ok-rest-3.ensures
    ∙ ap (λ z. z ++ r2) c.name.ensures.name)
