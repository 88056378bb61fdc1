use Rattle.std.proofs.Common.{◌≡◌, ℕ, List, take, Some}
use Rattle.mit_parser.specs.Words.{told}
use Rattle.next_tokens.specs.Parts.{after, at_start, left_of}
use Rattle.next_tokens.proofs.reach.read.Given as goal

abbrev pub invariant-loop-i : goal.invariant-loop-i
invariant-loop-i l = (text : List ℕ) → after at_start (told text (take l.i l.tokens)) ≡ Some (left_of l.parts.items)
