use Rattle.std.proofs.Common.{◌+◌, ◌*◌}
use Rattle.mit_syntax.specs.Todo.{Done}
use Rattle.mit_syntax.specs.Plan.{count, list_plan, command_plan}
use Rattle.mit_syntax.proofs.Counting.{CountedSoFar}
use Rattle.mit_syntax.proofs.count.+count.Given as goal

abbrev pub decreases-count_list : goal.decreases-count_list
decreases-count_list l = 2 * count (list_plan l.commands.now) + 1

abbrev pub decreases-count_command : goal.decreases-count_command
decreases-count_command l = 2 * count (command_plan l.command.now Done)

abbrev pub invariant-count_list-loop-c : goal.invariant-count_list-loop-c
invariant-count_list-loop-c l = CountedSoFar l.total l.c-index l.commands
