use Rattle.std.specs.Prelude.{slice_index_or, false}
use Rattle.timing_types.specs.Labelled.{levels_of}
use Rattle.level_counts.specs.Listed.{lists}
use Rattle.level_counts.proofs.Listing.{GoingListed}
use Rattle.level_counts.proofs.firsts.run_firsts.Given as goal

abbrev pub invariant-loop-taken : goal.invariant-loop-taken
invariant-loop-taken l =
    GoingListed (λ k. slice_index_or l.relevant k false) (levels_of l.p) l.p.program l.fn.memory l.taken l.walker l.memory.items (lists l.listed.items)
