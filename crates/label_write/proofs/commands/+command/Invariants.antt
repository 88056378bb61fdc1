use Rattle.std.proofs.Common.{◌+◌, ◌*◌}
use Rattle.mit_syntax.specs.Todo.{Done}
use Rattle.mit_syntax.specs.Plan.{command_plan, list_plan, count}
use Rattle.label_write.proofs.Lists.{WrittenSoFar}
use Rattle.label_write.proofs.commands.+command.Given as goal

abbrev pub decreases-write_form : goal.decreases-write_form
decreases-write_form l = 3 * count (command_plan l.c.now Done)

abbrev pub decreases-write_command : goal.decreases-write_command
decreases-write_command l = 3 * count (command_plan l.c.now Done) + 1

abbrev pub decreases-write_list : goal.decreases-write_list
decreases-write_list l = 3 * count (list_plan l.commands.now) + 2

abbrev pub invariant-write_list-loop-c : goal.invariant-write_list-loop-c
invariant-write_list-loop-c l = WrittenSoFar l.order l.labels l.commands l.number l.c-index l.next l.written.items
