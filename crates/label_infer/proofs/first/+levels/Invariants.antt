use Rattle.std.proofs.Common.{◌≡◌, ◌++◌, drop}
use Rattle.mit_syntax.specs.Plan.{list_plan}
use Rattle.label_infer.specs.First.{first_levels}
use Rattle.label_infer.proofs.first.+levels.Given as goal

abbrev pub invariant-list_levels-loop-c : goal.invariant-list_levels-loop-c
invariant-list_levels-loop-c l =
    l.fn.found.items ++ first_levels l.bottom.number (list_plan l.commands) ≡ l.found.items
    ++ first_levels l.bottom.number (list_plan (drop l.c-index l.commands))
