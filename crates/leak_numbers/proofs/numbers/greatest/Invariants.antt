use Rattle.std.proofs.Common.{◌≡◌, drop}
use Rattle.leak_numbers.specs.Numbers.{greatest_of}
use Rattle.leak_numbers.proofs.numbers.greatest.Given as goal

abbrev pub invariant-loop-weight : goal.invariant-loop-weight
invariant-loop-weight l = greatest_of 0 l.weights ≡ greatest_of l.greatest (drop l.weight-index l.weights)
