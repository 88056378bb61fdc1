use Rattle.std.proofs.Common.{ap, ◌∙◌, sym}
use Rattle.mit_parser.specs.Words.{is_sign}
use Rattle.mit_parser.proofs.Rules.{shows_sign}
use Rattle.mit_parser.proofs.Tags.{same_tags}
use Rattle.mit_parser.proofs.parser.Parser.at_sign.Goals as goal

pub returns-in-Sign : goal.returns-in-Sign
returns-in-Sign c = same_tags c.in-Sign.s c.args.sign ∙ sym (ap (is_sign c.args.sign) (shows_sign _ c.in-Sign.s (sym c.in-Sign.is ∙ c.kind.ensures)))
