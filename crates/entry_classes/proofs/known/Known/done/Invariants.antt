use Rattle.std.proofs.Common.{List, length}
use Rattle.first_replay.specs.Replay.{Entry}
use Rattle.entry_classes.specs.Classes.{Keeps}
use Rattle.entry_classes.proofs.Turning.{Turned}
use Rattle.entry_classes.proofs.known.Known.done.Given as goal

abbrev pub invariant-loop-entries : goal.invariant-loop-entries
invariant-loop-entries l = (runs : List (List Entry)) → Keeps runs l.fn.self → Turned runs l.self.classes.entries l.classes.items

abbrev pub decreases-loop-entries : goal.decreases-loop-entries
decreases-loop-entries l = length l.self.classes.entries
