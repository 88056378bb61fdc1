use Rattle.std.proofs.Common.{ap, length, arith}
use Rattle.mit_parser.proofs.Rules.{told_length}
use Rattle.mit_parser.proofs.parser.Parser.mitigate.Goals as goal

pub invariant_of-self : goal.invariant_of-self
invariant_of-self c =
    let i = c.self-2.invariant in
    let a = told_length c.self.inside.text.now c.self.inside.rest.now in
    let b = told_length c.self-2.inside.text.now c.self-2.inside.rest.now in
    let p = c.in_ok-advance.ensures.shorter in
    let u = ap (λ s. length s.words) c.self.view_is in
    let v = ap (λ s. length s.words) c.self-2.view_is in
    let m = c.self.invariant.marks in
    record { depth = i.depth; operators = i.operators; sound = i.sound; marks = omega (arith, a, b, p, u, v, m) }
