use Rattle.mit_syntax.specs.declared.token.Keyword.TheVariants.{Order}
use Rattle.mit_syntax.specs.Chunks.{key}
use Rattle.mit_parser.specs.Words.{word}
use Rattle.mit_parser.proofs.Listed.{was_there}
use Rattle.mit_parser.proofs.Heads.{ordering_some}
use Rattle.mit_parser.proofs.parser.Parser.ordering.Goals as goal

pub returns : goal.returns
returns c =
    ordering_some c.args.labels.now.keys c.args.self.now c.accept_key.new.self c.pairs.new.self c.sign.new.self c.in_ok-list.list.items
    (was_there (word (key Order)) _ _ _ c.if-not-branch.false c.in_ok-accept_key.ensures) c.in_ok-list.ensures c.in_ok-sign.ensures
