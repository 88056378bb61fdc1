use Rattle.std.proofs.Common.{◌≡◌, ◌++◌, map, drop, length}
use Rattle.label_infer.specs.First.{first_of}
use Rattle.label_infer.proofs.first.first_variables.Given as goal

abbrev pub invariant-loop-written : goal.invariant-loop-written
invariant-loop-written l = record {
  done : length l.found ≡ l.written-index;
  all : l.found ++ map (first_of l.k.order.now.bottom) (drop l.written-index l.k.written.items) ≡ map (first_of l.k.order.now.bottom) l.k.written.items;
}
