use Rattle.std.proofs.Common.{◌≡◌, ◌++◌, drop}
use Rattle.start_faults.specs.Touches.{names_text}
use Rattle.start_faults.proofs.touches.put_names.Given as goal

abbrev pub invariant-loop-number : goal.invariant-loop-number
invariant-loop-number l = l.out.items ++ names_text (drop l.number l.lattice.names) ≡ l.initial.out.items ++ names_text l.lattice.names
