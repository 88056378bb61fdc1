use Rattle.std.proofs.Common.{ap, ◌∙◌, sym, length, arith, ◌≡◌}
use Rattle.mit_parser.proofs.Rules.{told_length}
use Rattle.mit_parser.proofs.parser.Parser.laws.Goals as goal

pub returns : goal.returns
returns c =
    let a : length c.args.self.now.words ≡ length c.self.inside.rest.now =
    sym (ap (λ s. length s.words) c.self.view_is) ∙ told_length c.self.inside.text.now c.self.inside.rest.now in
    let b = c.self.invariant.sound.few in
    let d = c.self.invariant.depth in
    let e = ap (λ s. s.counts.depth) c.self.view_is in
    record { few = omega (arith, a, b); low = omega (arith, d, e) }
