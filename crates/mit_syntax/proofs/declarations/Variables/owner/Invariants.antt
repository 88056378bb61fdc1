use Rattle.std.proofs.Common.{◌<◌, ◌≤◌, ◌-◌, length}
use Rattle.mit_syntax.specs.Declarations.{first_of}
use Rattle.mit_syntax.proofs.declarations.Variables.owner.Given as goal

abbrev pub invariant-loop-high : goal.invariant-loop-high
invariant-loop-high l = record {
  some : l.low < l.high;
  within : l.high ≤ length l.self;
  from : first_of l.self l.low ≤ l.x;
  to : l.x < first_of l.self l.high;
}

abbrev pub decreases-loop-high : goal.decreases-loop-high
decreases-loop-high l = l.high - l.low
