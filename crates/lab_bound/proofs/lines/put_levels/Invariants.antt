use Rattle.lab_bound.proofs.Putting.{LevelsPut}
use Rattle.lab_bound.proofs.lines.put_levels.Given as goal

abbrev pub invariant-loop-number : goal.invariant-loop-number
invariant-loop-number l = LevelsPut l.order l.observer.number l.t l.levels l.fn.text.items l.number l.text.items
