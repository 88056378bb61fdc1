use Rattle.tool_texts.proofs.PieceLemmas.{RunsPut}
use Rattle.tool_texts.proofs.pieces.boxes.put_runs.Given as goal

abbrev pub invariant-loop-k : goal.invariant-loop-k
invariant-loop-k l = RunsPut l.initial.text.items l.text.items l.k l.all l.runs l.classes
