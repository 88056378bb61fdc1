use Rattle.std.proofs.Common.{◌≡◌, ◌++◌, map, take}
use Rattle.fault_print.specs.Marked.{under}
use Rattle.fault_print.proofs.marked.put_under.Given as goal

abbrev pub invariant-loop-b : goal.invariant-loop-b
invariant-loop-b l = l.out.items ≡ l.initial.out.items ++ map under (take l.b-index l.bytes)
