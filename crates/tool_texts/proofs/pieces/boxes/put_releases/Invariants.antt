use Rattle.tool_texts.specs.Reports.{release_line}
use Rattle.tool_texts.proofs.PieceLemmas.{PutTo}
use Rattle.tool_texts.proofs.pieces.boxes.put_releases.Given as goal

abbrev pub invariant-loop-k : goal.invariant-loop-k
invariant-loop-k l = PutTo (release_line l.run) l.initial.text.items l.text.items l.k l.at
