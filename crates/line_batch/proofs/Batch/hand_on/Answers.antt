use Rattle.std.proofs.Common.{◌++◌, subst}
use Rattle.std.specs.Io.KnownBytes.{Keeps, append_known}
use Rattle.line_batch.specs.Batches.{Held, text_of}
use Rattle.line_batch.proofs.BatchLemmas.{Keeps_behind}
use Rattle.line_batch.proofs.Batch.hand_on.Goals as goal

pub returns-clause-kept : goal.returns-clause-kept
returns-clause-kept g c =
    let begun = c.self.inside.begun.items in
    let new = append_known (g.W.Sink.taken c.hand_on.new.out) (c.hand_on.new.waiting.items ++ begun) in
    subst (λ (h : Held). Keeps (text_of h) new) c.self.view_is (Keeps_behind _ _ _ _ begun c.hand_on.ensures.kept)
