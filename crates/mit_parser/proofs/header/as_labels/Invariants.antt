use Rattle.std.proofs.Common.{◌≡◌, take}
use Rattle.mit_parser.specs.Faults.{as_labels}
use Rattle.mit_parser.proofs.header.as_labels.Given as goal

abbrev pub invariant-loop-i : goal.invariant-loop-i
invariant-loop-i l = l.pairs.items ≡ as_labels (take l.i l.numbers)
