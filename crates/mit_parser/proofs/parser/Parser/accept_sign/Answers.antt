use Rattle.std.proofs.Common.{◌∙◌, sym}
use Rattle.mit_parser.proofs.Rules.{took_at}
use Rattle.mit_parser.proofs.parser.Parser.accept_sign.Goals as goal

pub returns : goal.returns
returns c = took_at _ _ _ (sym c.at_sign.ensures ∙ c.if-not-at_sign.false) c.in_ok-advance.ensures
