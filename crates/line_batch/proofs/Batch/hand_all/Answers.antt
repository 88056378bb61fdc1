use Rattle.std.proofs.Common.{◌++◌, subst}
use Rattle.std.specs.Io.KnownBytes.{Keeps, append_known}
use Rattle.line_batch.specs.Batches.{Held, text_of}
use Rattle.line_batch.proofs.Batch.hand_all.Goals as goal

pub returns-clause-kept : goal.returns-clause-kept
returns-clause-kept g c =
    let new = append_known (g.W.Sink.taken c.hand_all.new.out) (c.hand_all.new.lines.items ++ c.hand_all.new.begun.items) in
    subst (λ (h : Held). Keeps (text_of h) new) c.self.view_is c.hand_all.ensures.kept
