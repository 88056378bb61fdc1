use Rattle.std.proofs.Common.{◌≡◌, length}
use Rattle.mit_parser.specs.Words.{Symbol}
use Rattle.mit_parser.specs.Machine.{step}
use Rattle.next_tokens.specs.Sorts.{sort_of}
use Rattle.next_tokens.specs.Parts.{left_of}
use Rattle.next_tokens.proofs.stack.take.Given as goal

abbrev pub invariant-loop-part : goal.invariant-loop-part
invariant-loop-part l = (w : Symbol) → sort_of w ≡ l.sort → step (left_of l.initial.parts.items) w ≡ step (left_of l.parts.items) w

abbrev pub decreases-loop-part : goal.decreases-loop-part
decreases-loop-part l = length l.parts.items
