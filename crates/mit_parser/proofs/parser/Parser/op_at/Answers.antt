use Rattle.std.proofs.Common.{ap, ◌∙◌, []}
use Rattle.mit_parser.specs.Words.{symbol_of, head_symbol}
use Rattle.mit_parser.specs.Operators.{op_at}
use Rattle.mit_parser.proofs.Levels.{op_kind}
use Rattle.mit_parser.proofs.parser.Parser.op_at.Goals as goal

pub returns : goal.returns
returns c =
    c.op_at.ensures [] ∙ ap (λ k. op_at c.args.rank (symbol_of k [])) c.kind.ensures
    ∙ op_kind c.args.rank (head_symbol c.args.self.now.words)
