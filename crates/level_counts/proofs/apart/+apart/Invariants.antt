use Rattle.std.proofs.Common.{◌≡◌, drop}
use Rattle.std.specs.Prelude.{slice_index_or, false}
use Rattle.mit_syntax.specs.Plan.{list_plan}
use Rattle.level_counts.specs.Apart.{finds_apart}
use Rattle.level_counts.proofs.apart.+apart.Given as goal

abbrev pub invariant-list_apart-loop-c : goal.invariant-list_apart-loop-c
invariant-list_apart-loop-c l =
    finds_apart (λ k. slice_index_or l.relevant k false) l.inside (list_plan l.commands)
    ≡ finds_apart (λ k. slice_index_or l.relevant k false) l.inside (list_plan (drop l.c-index l.commands))
