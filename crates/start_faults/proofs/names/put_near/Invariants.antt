use Rattle.std.proofs.Common.{◌≡◌, ◌++◌, drop}
use Rattle.start_faults.specs.Names.{near_names}
use Rattle.start_faults.proofs.names.put_near.Given as goal

abbrev pub invariant-loop-k : goal.invariant-loop-k
invariant-loop-k l =
    l.out.items ++ near_names l.word (drop l.k l.program.declarations) ≡ l.initial.out.items ++ near_names l.word l.program.declarations
