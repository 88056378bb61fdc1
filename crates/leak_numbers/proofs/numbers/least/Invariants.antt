use Rattle.std.proofs.Common.{◌≡◌, drop}
use Rattle.leak_numbers.specs.Numbers.{least_of}
use Rattle.leak_numbers.proofs.numbers.least.Given as goal

abbrev pub invariant-loop-weight : goal.invariant-loop-weight
invariant-loop-weight l = least_of l.fn.most l.weights ≡ least_of l.least (drop l.weight-index l.weights)
