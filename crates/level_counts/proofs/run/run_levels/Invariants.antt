use Rattle.std.specs.Prelude.{slice_index_or, false}
use Rattle.timing_types.specs.Labelled.{levels_of}
use Rattle.level_counts.proofs.Going.{Going}
use Rattle.level_counts.proofs.run.run_levels.Given as goal

abbrev pub invariant-loop-taken : goal.invariant-loop-taken
invariant-loop-taken l = Going (λ k. slice_index_or l.relevant k false) (levels_of l.p) l.p.program l.fn.memory l.taken l.walker l.memory.items l.levels.items
