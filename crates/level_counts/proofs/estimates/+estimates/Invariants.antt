use Rattle.std.proofs.Common.{◌≡◌, ◌++◌, drop, map}
use Rattle.mit_syntax.specs.Expression.{expression_of}
use Rattle.mit_syntax.specs.Plan.{list_plan}
use Rattle.level_counts.specs.Estimates.{estimates_of}
use Rattle.level_counts.proofs.estimates.+estimates.Given as goal

abbrev pub invariant-list_estimates-loop-c : goal.invariant-list_estimates-loop-c
invariant-list_estimates-loop-c l =
    map (λ e. expression_of e.now) l.fn.found.items ++ estimates_of (list_plan l.commands) ≡ map (λ e. expression_of e.now) l.found.items
    ++ estimates_of (list_plan (drop l.c-index l.commands))
