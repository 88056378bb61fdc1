use Rattle.std.proofs.Common.{ap, ◌∙◌, sym, refl}
use Rattle.mit_parser.proofs.Rules.{first_told}
use Rattle.mit_parser.proofs.parser.Parser.unexpected.Goals as goal

pub returns : goal.returns
returns c =
    record {
      first = _;
      rest = _;
      was = sym (ap (λ s. s.words) c.self.view_is) ∙ first_told c.self.inside.text.now c.self.inside.rest.now _ c.self.invariant.sound.ended;
      place = refl;
    }
