use Rattle.std.proofs.Common.{◌++◌, subst}
use Rattle.std.specs.Io.KnownBytes.{Keeps, append_known}
use Rattle.line_batch.specs.Batches.{Held, text_of}
use Rattle.line_batch.proofs.BatchLemmas.{none_left}
use Rattle.line_batch.proofs.Batch.finish.Goals as goal

pub returns-clause-kept : goal.returns-clause-kept
returns-clause-kept g c =
    let lines = c.hand_all-result.new.lines.items in
    let begun = c.hand_all-result.new.begun.items in
    let new = append_known (g.W.Sink.taken c.hand_all-result.new.out) (lines ++ begun) in (
      lines ++ begun,
      subst (λ (h : Held). Keeps (text_of h) new) c.self.view_is c.hand_all-result.ensures.kept,
      none_left lines begun c.hand_all-result.result c.hand_all-result.ensures.empty,
    )
