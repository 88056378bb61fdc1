use Rattle.std.proofs.Common.{sym, ap, ◌∙◌, ◌++◌}
use Rattle.type_cert.specs.Text.{head_text}
use Rattle.type_cert.proofs.Cuts.{at_head, past_head, at_pc, at_start, at_read, at_write, at_end, at_level, to_pc, to_start, to_read, to_write, to_end}
use Rattle.type_cert.proofs.Cuts.{to_level, after_head, after_pc, after_start, after_read, after_write, after_end, after_level, line_from}
use Rattle.type_cert.proofs.read.line.Goals as goal

pub returns-in_err-rest : goal.returns-in_err-rest
returns-in_err-rest c =
    let o = c.args.order.now in
    let ok = c.laws.ensures.order in
    rw c.from_residual.ensures (λ x q h. c.in_err-rest.ensures (after_head o ok x q) (at_head o ok c.args.number c.args.act c.args.text.now x q h
    ∙ ap (λ z. head_text c.args.number z ++ after_head o ok x q) (sym c.rule_of-rule.ensures)))

pub level-requires : goal.level-requires
level-requires c = c.in_ok-end.ensures.stops

pub returns-in_err-pc : goal.returns-in_err-pc
returns-in_err-pc c =
    let o = c.args.order.now in
    let ok = c.laws.ensures.order in
    let i = c.args.number in
    let a = c.args.act in
    let text = c.args.text.now in
    let r0 = c.in_ok-rest.rest.now in
    let e0 = c.in_ok-rest.ensures ∙ ap (λ z. head_text i z ++ r0) c.rule_of-rule.ensures in
    rw c.from_residual-in_err-pc.ensures
    (λ x q h. c.in_err-pc.ensures x.pc (after_pc o ok x q) (at_pc o ok i a text x q h r0 (past_head o ok i a text x q h r0 e0)))

pub returns-in_err-start : goal.returns-in_err-start
returns-in_err-start c =
    let o = c.args.order.now in
    let ok = c.laws.ensures.order in
    let i = c.args.number in
    let a = c.args.act in
    let text = c.args.text.now in
    let r0 = c.in_ok-rest.rest.now in
    let r1 = c.in_ok-pc.rest.now in
    let e0 = c.in_ok-rest.ensures ∙ ap (λ z. head_text i z ++ r0) c.rule_of-rule.ensures in
    rw c.from_residual-in_err-start.ensures (λ x q h.
    let z = to_pc o ok i a text x q h r0 e0 c.in_ok-pc.pc r1 c.in_ok-pc.ensures in
    c.in_err-start.ensures x.start (after_start o ok x q) (at_start o ok i a text x q h r1 (sym z.1)))

pub returns-in_err-read : goal.returns-in_err-read
returns-in_err-read c =
    let o = c.args.order.now in
    let ok = c.laws.ensures.order in
    let i = c.args.number in
    let a = c.args.act in
    let text = c.args.text.now in
    let r0 = c.in_ok-rest.rest.now in
    let r1 = c.in_ok-pc.rest.now in
    let r2 = c.in_ok-start.rest.now in
    let e0 = c.in_ok-rest.ensures ∙ ap (λ z. head_text i z ++ r0) c.rule_of-rule.ensures in
    rw c.from_residual-in_err-read.ensures (λ x q h.
    let z = to_start o ok i a text x q h r0 e0 c.in_ok-pc.pc r1 c.in_ok-pc.ensures c.in_ok-start.start r2 c.in_ok-start.ensures in
    c.in_err-read.ensures x.read (after_read o ok x q) (at_read o ok i a text x q h r2 (sym z.1)))

pub returns-in_err-write : goal.returns-in_err-write
returns-in_err-write c =
    let o = c.args.order.now in
    let ok = c.laws.ensures.order in
    let i = c.args.number in
    let a = c.args.act in
    let text = c.args.text.now in
    let r0 = c.in_ok-rest.rest.now in
    let r1 = c.in_ok-pc.rest.now in
    let r2 = c.in_ok-start.rest.now in
    let r3 = c.in_ok-read.rest.now in
    let e0 = c.in_ok-rest.ensures ∙ ap (λ z. head_text i z ++ r0) c.rule_of-rule.ensures in
    rw c.from_residual-in_err-write.ensures (λ x q h.
    let z = to_read o ok i a text x q h r0 e0 c.in_ok-pc.pc r1 c.in_ok-pc.ensures c.in_ok-start.start r2 c.in_ok-start.ensures
    c.in_ok-read.read r3 c.in_ok-read.ensures in
    c.in_err-write.ensures x.write (after_write o ok x q) (at_write o ok i a text x q h r3 (sym z.1)))

pub returns-in_err-end : goal.returns-in_err-end
returns-in_err-end c =
    let o = c.args.order.now in
    let ok = c.laws.ensures.order in
    let i = c.args.number in
    let a = c.args.act in
    let text = c.args.text.now in
    let r0 = c.in_ok-rest.rest.now in
    let r1 = c.in_ok-pc.rest.now in
    let r2 = c.in_ok-start.rest.now in
    let r3 = c.in_ok-read.rest.now in
    let r4 = c.in_ok-write.rest.now in
    let e0 = c.in_ok-rest.ensures ∙ ap (λ z. head_text i z ++ r0) c.rule_of-rule.ensures in
    rw c.from_residual-in_err-end.ensures (λ x q h.
    let z =
    to_write o ok i a text x q h r0 e0 c.in_ok-pc.pc r1 c.in_ok-pc.ensures c.in_ok-start.start r2 c.in_ok-start.ensures c.in_ok-read.read r3
    c.in_ok-read.ensures c.in_ok-write.write r4 c.in_ok-write.ensures in
    c.in_err-end.ensures x.end (after_end o ok x q) (at_end o ok i a text x q h r4 (sym z.1)))

pub returns-in_err-level : goal.returns-in_err-level
returns-in_err-level c =
    let o = c.args.order.now in
    let ok = c.laws.ensures.order in
    let i = c.args.number in
    let a = c.args.act in
    let text = c.args.text.now in
    let r0 = c.in_ok-rest.rest.now in
    let r1 = c.in_ok-pc.rest.now in
    let r2 = c.in_ok-start.rest.now in
    let r3 = c.in_ok-read.rest.now in
    let r4 = c.in_ok-write.rest.now in
    let r5 = c.in_ok-end.rest.now in
    let e0 = c.in_ok-rest.ensures ∙ ap (λ z. head_text i z ++ r0) c.rule_of-rule.ensures in
    rw c.from_residual-in_err-level.ensures (λ x q h.
    let z =
    to_end o ok i a text x q h r0 e0 c.in_ok-pc.pc r1 c.in_ok-pc.ensures c.in_ok-start.start r2 c.in_ok-start.ensures c.in_ok-read.read r3 c.in_ok-read.ensures
    c.in_ok-write.write r4 c.in_ok-write.ensures
    c.in_ok-end.end r5 c.in_ok-end.ensures in
    c.in_err-level.ensures x.level (after_level o ok q) (at_level o ok i a text x q h r5 (sym z.1)))

pub returns-in_err-rest-2 : goal.returns-in_err-rest-2
returns-in_err-rest-2 c =
    let o = c.args.order.now in
    let ok = c.laws.ensures.order in
    let i = c.args.number in
    let a = c.args.act in
    let text = c.args.text.now in
    let r0 = c.in_ok-rest.rest.now in
    let r1 = c.in_ok-pc.rest.now in
    let r2 = c.in_ok-start.rest.now in
    let r3 = c.in_ok-read.rest.now in
    let r4 = c.in_ok-write.rest.now in
    let r5 = c.in_ok-end.rest.now in
    let r6 = c.in_ok-level.rest.now in
    let e0 = c.in_ok-rest.ensures ∙ ap (λ z. head_text i z ++ r0) c.rule_of-rule.ensures in
    rw c.from_residual-in_err-rest-2.ensures (λ x q h.
    let z =
    to_level o ok i a text x q h r0 e0 c.in_ok-pc.pc r1 c.in_ok-pc.ensures c.in_ok-start.start r2 c.in_ok-start.ensures c.in_ok-read.read r3
    c.in_ok-read.ensures c.in_ok-write.write r4 c.in_ok-write.ensures
    c.in_ok-end.end r5 c.in_ok-end.ensures c.in_ok-level.level r6 c.in_ok-level.ensures in
    c.in_err-rest-2.ensures q (sym z.1))

pub returns : goal.returns
returns c =
    line_from c.args.order.now c.args.number c.args.act c.args.text.now c.in_ok-rest.rest.now c.in_ok-pc.rest.now c.in_ok-start.rest.now c.in_ok-read.rest.now
    c.in_ok-write.rest.now c.in_ok-end.rest.now
    c.in_ok-level.rest.now c.in_ok-rest-2.rest.now c.rule_of-rule.result c.in_ok-pc.pc c.in_ok-start.start c.in_ok-read.read c.in_ok-write.write c.in_ok-end.end
    c.in_ok-level.level c.rule_of-rule.ensures
    c.in_ok-rest.ensures c.in_ok-pc.ensures c.in_ok-start.ensures c.in_ok-read.ensures c.in_ok-write.ensures c.in_ok-end.ensures
    c.in_ok-level.ensures c.in_ok-rest-2.ensures
