use Rattle.std.proofs.Common.{sym, arith}
use Rattle.start_faults.proofs.Walks.{few_are, many_are}
use Rattle.start_faults.proofs.values.few.Goals as goal

pub returns-then-values-length : goal.returns-then-values-length
returns-then-values-length c = sym (few_are c.args.values.now c.args.length (omega arith))

pub returns : goal.returns
returns c = sym (many_are c.args.values.now c.args.length (omega arith))
