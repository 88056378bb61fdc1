use Rattle.std.proofs.Common.{◌+◌, ◌*◌, [], drop}
use Rattle.mit_syntax.specs.Todo.{Done}
use Rattle.mit_syntax.specs.Plan.{list_plan, command_plan, count}
use Rattle.flow_path.specs.Steps.{ends}
use Rattle.flow_path.specs.Distances.{PassesIn, ComesIn, IsTimeOf}
use Rattle.flow_path.proofs.pass.+steps.Given as goal

abbrev pub invariant-list_pass-loop-c : goal.invariant-list_pass-loop-c
invariant-list_pass-loop-c l = record {
  passes : PassesIn l.round l.initial.sides l.sides l.pc l.fn.t l.end (list_plan l.commands) (list_plan (drop l.c-index l.commands));
  comes : ComesIn l.round l.fn.t l.end (list_plan l.commands) (list_plan (drop l.c-index l.commands));
  time : IsTimeOf l.round l.end (ends (list_plan (drop l.c-index l.commands)) []) l.stays;
}

abbrev pub decreases-command_pass : goal.decreases-command_pass
decreases-command_pass l = 2 * count (command_plan l.c.now Done)

abbrev pub decreases-list_pass : goal.decreases-list_pass
decreases-list_pass l = 2 * count (list_plan l.commands.now) + 1
