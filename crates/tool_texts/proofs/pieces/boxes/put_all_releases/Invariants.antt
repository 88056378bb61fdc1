use Rattle.tool_texts.proofs.PieceLemmas.{PutTo, releases_text}
use Rattle.tool_texts.proofs.pieces.boxes.put_all_releases.Given as goal

abbrev pub invariant-loop-k : goal.invariant-loop-k
invariant-loop-k l = PutTo releases_text l.initial.text.items l.text.items l.k l.runs
