use Rattle.mit_syntax.specs.declared.token.Keyword.TheVariants.{Skip}
use Rattle.std.proofs.Common.{sym}
use Rattle.mit_parser.specs.Reads.{scope_of}
use Rattle.mit_parser.proofs.Rules.{shows_key}
use Rattle.mit_parser.proofs.Listed.{command_skip}
use Rattle.mit_parser.proofs.parser.Parser.skip.Goals as goal

pub returns : goal.returns
returns c =
    command_skip (scope_of c.args.names.now) c.args.self.now c.pos-pos.result c.pos-pos.ensures c.advance.new.self c.marks.new.self c.in_ok-labels.labels
    (shows_key _ Skip (sym c.requires)) c.in_ok-advance.ensures c.in_ok-labels.ensures
