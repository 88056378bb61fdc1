use Rattle.std.proofs.Common.{ap, ◌∙◌, sym, subst}
use Rattle.mit_parser.specs.Words.{kind_of, head_symbol, IsEnded}
use Rattle.mit_parser.proofs.Rules.{at_end, kind_first, no_token}
use Rattle.mit_parser.proofs.parser.Parser.is_at_end.Goals as goal

pub returns-in-End : goal.returns-in-End
returns-in-End c =
    at_end c.args.self.now.words (subst (λ s. IsEnded s.words) c.self.view_is c.self.invariant.sound.ended)
    (sym c.in-End.is ∙ kind_first c.self.inside.text.now c.self.inside.rest.now no_token c.self.invariant.sound.ended
    ∙ ap (λ s. kind_of (head_symbol s.words)) c.self.view_is)
