use Rattle.tool_texts.specs.Reports.{class_line}
use Rattle.tool_texts.proofs.PieceLemmas.{PutTo}
use Rattle.tool_texts.proofs.pieces.audits.put_classes.Given as goal

abbrev pub invariant-loop-k : goal.invariant-loop-k
invariant-loop-k l = PutTo class_line l.initial.text.items l.text.items l.k l.classes
