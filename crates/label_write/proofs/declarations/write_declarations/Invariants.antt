use Rattle.label_write.proofs.Tables.{PutSoFar}
use Rattle.label_write.proofs.declarations.write_declarations.Given as goal

abbrev pub invariant-loop-k : goal.invariant-loop-k
invariant-loop-k l = PutSoFar l.order l.labels l.variables l.k l.first l.table.entries
