use Rattle.std.proofs.Common.{◌≡◌, drop}
use Rattle.found_print.specs.Chains.{behind_blank}
use Rattle.found_print.proofs.chain.behind_blank.Given as goal

abbrev pub invariant-loop-i : goal.invariant-loop-i
invariant-loop-i l = behind_blank (drop l.i l.words) ≡ behind_blank l.words
