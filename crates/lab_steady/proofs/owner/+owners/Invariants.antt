use Rattle.std.proofs.Common.{◌+◌, ◌*◌}
use Rattle.mit_syntax.specs.Todo.{Done}
use Rattle.mit_syntax.specs.Plan.{list_plan, command_plan, count}
use Rattle.lab_steady.proofs.Owners.{Walked}
use Rattle.lab_steady.proofs.owner.+owners.Given as goal

abbrev pub invariant-list_owner-loop-c : goal.invariant-list_owner-loop-c
invariant-list_owner-loop-c l = Walked l.commands l.at l.place l.c-index l.gone

abbrev pub decreases-command_owner : goal.decreases-command_owner
decreases-command_owner l = 2 * count (command_plan l.c.now Done)

abbrev pub decreases-list_owner : goal.decreases-list_owner
decreases-list_owner l = 2 * count (list_plan l.commands.now) + 1
