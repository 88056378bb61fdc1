use Rattle.std.proofs.Common.{◌∙◌, sym}
use Rattle.mit_parser.proofs.Rules.{took_at}
use Rattle.mit_parser.proofs.parser.Parser.accept_key.Goals as goal

pub returns : goal.returns
returns c = took_at _ _ _ (sym c.at_key.ensures ∙ c.if-not-at_key.false) c.in_ok-advance.ensures
