use Rattle.std.proofs.Common.{arith}
use Rattle.toml.specs.View.{items_view}
use Rattle.start_file.proofs.Written.{elements_from}
use Rattle.start_file.proofs.memory.put_elements.Goals as goal

pub returns : goal.returns
returns c = elements_from c.loop-i.cells _ (items_view c.args.values.now) c.loop-i.auto.cells (λ k l. c.loop-i.invariant k (omega arith))
