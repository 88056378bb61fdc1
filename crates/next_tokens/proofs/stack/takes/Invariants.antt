use Rattle.std.proofs.Common.{◌≡◌, ◌≤◌, length, take}
use Rattle.mit_parser.specs.Words.{Symbol}
use Rattle.mit_parser.specs.Machine.{step}
use Rattle.next_tokens.specs.Sorts.{sort_of}
use Rattle.next_tokens.specs.Parts.{left_of}
use Rattle.next_tokens.proofs.stack.takes.Given as goal

abbrev pub invariant-loop-i : goal.invariant-loop-i
invariant-loop-i l = record {
  within : l.i ≤ length l.parts;
  same : (w : Symbol) → sort_of w ≡ l.sort → step (left_of l.parts) w ≡ step (left_of (take l.i l.parts)) w;
}

abbrev pub decreases-loop-i : goal.decreases-loop-i
decreases-loop-i l = l.i
