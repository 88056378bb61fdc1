use Rattle.std.proofs.Common.{◌+◌, ◌*◌, drop}
use Rattle.mit_syntax.specs.Todo.{Done}
use Rattle.mit_syntax.specs.Plan.{list_plan, command_plan, count}
use Rattle.flow_path.specs.Distances.{ComesIn}
use Rattle.flow_path.proofs.pass.+ends.Given as goal

abbrev pub invariant-list_end-loop-c : goal.invariant-list_end-loop-c
invariant-list_end-loop-c l = ComesIn l.round l.fn.t l.end (list_plan l.commands) (list_plan (drop l.c-index l.commands))

abbrev pub decreases-command_end : goal.decreases-command_end
decreases-command_end l = 2 * count (command_plan l.c.now Done)

abbrev pub decreases-list_end : goal.decreases-list_end
decreases-list_end l = 2 * count (list_plan l.commands.now) + 1
