use Rattle.mit_syntax.specs.declared.token.Sign.TheVariants.{Comma}
use Rattle.mit_syntax.specs.Chunks.{sign}
use Rattle.mit_parser.specs.Words.{word}
use Rattle.mit_parser.proofs.Listed.{second_some, was_there}
use Rattle.mit_parser.proofs.parser.Parser.second.Goals as goal

pub returns : goal.returns
returns c =
    rw c.label-label.ensures.state (second_some _ c.args.self.now c.accept_sign.new.self c.name.new.self c.in_ok-name.name c.in_ok-name.pos c.label-label.result
    (was_there (word (sign Comma)) _ _ _ c.if-not-branch.false c.in_ok-accept_sign.ensures) c.in_ok-name.ensures c.label-label.ensures.label)
