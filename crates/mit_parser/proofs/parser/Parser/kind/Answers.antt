use Rattle.std.proofs.Common.{ap, ◌∙◌}
use Rattle.mit_parser.specs.Words.{kind_of, head_symbol}
use Rattle.mit_parser.proofs.Rules.{kind_first}
use Rattle.mit_parser.proofs.parser.Parser.kind.Goals as goal

pub returns : goal.returns
returns c = kind_first c.self.inside.text.now c.self.inside.rest.now _ c.self.invariant.sound.ended ∙ ap (λ s. kind_of (head_symbol s.words)) c.self.view_is
