use Rattle.std.proofs.Common.{arith}
use Rattle.line_batch.proofs.BatchLemmas.{ends_by_last}
use Rattle.line_batch.proofs.ends_line.Goals as goal

pub returns-clause-ends : goal.returns-clause-ends
returns-clause-ends c = λ _. ends_by_last c.args.piece.now (grind (arith, c.is_empty.ensures, c.if-is_empty.false)) c.if-piece-ne10.false
