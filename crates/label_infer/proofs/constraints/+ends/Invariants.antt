use Rattle.std.proofs.Common.{◌≡◌, drop}
use Rattle.mit_syntax.specs.Plan.{list_plan}
use Rattle.label_infer.specs.LeftSideOf.{left_side_of}
use Rattle.label_infer.specs.ConstraintsOf.{end_of}
use Rattle.label_infer.proofs.constraints.+ends.Given as goal

abbrev pub invariant-list_end-loop-c : goal.invariant-list_end-loop-c
invariant-list_end-loop-c l = end_of l.k (list_plan l.commands) (left_side_of l.t)
    ≡ end_of l.k (list_plan (drop l.c-index l.commands)) (left_side_of l.end)
