use Rattle.std.proofs.Common.{◌+◌, ◌-◌, ◌*◌}
use Rattle.mit_syntax.proofs.Commanding.{PutSoFar}
use Rattle.mit_syntax.proofs.print.commands.+command.Given as goal

abbrev pub decreases-put_command : goal.decreases-put_command
decreases-put_command l = 3 * (101 - l.depth)

abbrev pub decreases-put_block : goal.decreases-put_block
decreases-put_block l = 3 * (101 - l.depth) - 1

abbrev pub decreases-put_commands : goal.decreases-put_commands
decreases-put_commands l = 3 * (101 - l.depth) + 1

abbrev pub invariant-put_commands-loop-i : goal.invariant-put_commands-loop-i
invariant-put_commands-loop-i l = PutSoFar l.fn.out.items l.out.items l.labels l.variables l.depth l.i l.list
