use Rattle.std.proofs.Common.{◌+◌, ◌-◌, ◌*◌, length}
use Rattle.mit_parser.specs.Reads.{CommandsSoFar, scope_of}
use Rattle.mit_parser.proofs.parser.Parser.+command.Given as goal

abbrev pub decreases-block : goal.decreases-block
decreases-block l = 5 * (200 - l.self.now.counts.depth)

abbrev pub decreases-otherwise : goal.decreases-otherwise
decreases-otherwise l = 5 * (200 - l.self.now.counts.depth) + 1

abbrev pub decreases-branching : goal.decreases-branching
decreases-branching l = 5 * (200 - l.self.now.counts.depth) + 2

abbrev pub decreases-repetition : goal.decreases-repetition
decreases-repetition l = 5 * (200 - l.self.now.counts.depth) + 2

abbrev pub decreases-mitigation : goal.decreases-mitigation
decreases-mitigation l = 5 * (200 - l.self.now.counts.depth) + 2

abbrev pub decreases-command : goal.decreases-command
decreases-command l = 5 * (200 - l.self.now.counts.depth) + 3

abbrev pub decreases-commands : goal.decreases-commands
decreases-commands l = 5 * (200 - l.self.now.counts.depth) + 4

abbrev pub invariant-commands-loop-alloc : goal.invariant-commands-loop-alloc
invariant-commands-loop-alloc l = CommandsSoFar (scope_of l.fn.names) l.fn.self l.self l.list.items

abbrev pub decreases-commands-loop-alloc : goal.decreases-commands-loop-alloc
decreases-commands-loop-alloc l = length l.self.words
