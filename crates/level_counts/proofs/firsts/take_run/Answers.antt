use Rattle.std.proofs.Common.{ℕ, ap, ◌∙◌, List}
use Rattle.std.specs.Prelude.{slice_index_or}
use Rattle.level_counts.specs.Noted.{lesser}
use Rattle.level_counts.proofs.ListLemmas.{run_taken}
use Rattle.level_counts.proofs.firsts.take_run.Goals as goal

pub loop-l-preserved : goal.loop-l-preserved
loop-l-preserved c =
    run_taken c.args.listed.now.items c.args.run.now c.loop-l.listed.items c.loop-l.l c.index_mut.result.now c.index-run-l.result c.take_places.new.places
    c.loop-l.invariant c.requires c.loop-l-test.true c.index_mut.ensures.value c.index-run-l.is c.take_places.ensures.long
    (λ k less. c.take_places.ensures.lesser k less
    ∙ ap (λ (z : List ℕ). lesser (slice_index_or c.index_mut.result.now.items k 0) (slice_index_or z k 0)) c.as_slice.ensures.value)
