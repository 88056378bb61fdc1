use Rattle.std.proofs.Common.{◌≡◌, ◌+◌, ◌*◌, max, drop}
use Rattle.mit_syntax.specs.Todo.{Done}
use Rattle.mit_syntax.specs.Plan.{list_plan, command_plan, count}
use Rattle.code_lower.specs.Layout.{size}
use Rattle.code_lower.specs.Depth.{most_operands, deepest}
use Rattle.code_lower.proofs.size.+extent.Given as goal

abbrev pub invariant-list_extent-loop-c : goal.invariant-list_extent-loop-c
invariant-list_extent-loop-c l = record {
  size : l.all.size + size (list_plan (drop l.c-index l.commands)) ≡ size (list_plan l.commands);
  operands : max l.all.operands (most_operands (list_plan (drop l.c-index l.commands))) ≡ most_operands (list_plan l.commands);
  nesting : max l.all.nesting (deepest (list_plan (drop l.c-index l.commands))) ≡ deepest (list_plan l.commands);
}

abbrev pub decreases-command_extent : goal.decreases-command_extent
decreases-command_extent l = 2 * count (command_plan l.c.now Done)

abbrev pub decreases-list_extent : goal.decreases-list_extent
decreases-list_extent l = 2 * count (list_plan l.commands.now) + 1
