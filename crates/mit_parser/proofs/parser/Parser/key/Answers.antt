use Rattle.std.proofs.Common.{◌∙◌, sym}
use Rattle.mit_parser.proofs.Rules.{took}
use Rattle.mit_parser.proofs.parser.Parser.key.Goals as goal

pub returns : goal.returns
returns c = took _ c.advance.result _ _ (sym c.at_key.ensures ∙ c.if-not-at_key.false) c.advance.ensures
