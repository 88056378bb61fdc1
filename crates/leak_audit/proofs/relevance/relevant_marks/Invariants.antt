use Rattle.std.proofs.Common.{◌≡◌}
use Rattle.leak_audit.proofs.Marking.{marks_told, relevance_by}
use Rattle.leak_audit.proofs.relevance.relevant_marks.Given as goal

abbrev pub invariant-loop-mark : goal.invariant-loop-mark
invariant-loop-mark l = l.relevant.items ≡ marks_told (relevance_by l.p l.observer.number) 0 l.mark
