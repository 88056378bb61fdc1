use Rattle.std.proofs.Common.{◌≡◌, ◌<◌, ℕ, length, get_or}
use Rattle.mit_syntax.specs.Declarations.{first_of}
use Rattle.mit_syntax.proofs.declarations.Variables.of.Given as goal

abbrev pub invariant-loop-k : goal.invariant-loop-k
invariant-loop-k l = record {
  next : l.next ≡ first_of l.fn.table.entries l.k;
  all : length l.firsts.items ≡ l.k;
  firsts : (j : ℕ) → j < l.k → get_or l.firsts.items j 0 ≡ first_of l.fn.table.entries j;
}
