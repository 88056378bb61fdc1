use Rattle.std.proofs.Common.{◌≤◌, ◌-◌, length, map, string_bytes}
use Rattle.lab_words.specs.Refusal.{StandUpTo}
use Rattle.lab_words.proofs.refusal.first_wrong.Given as goal

abbrev pub invariant-loop-at : goal.invariant-loop-at
invariant-loop-at l = record {
  within : l.at ≤ length l.words;
  stand : StandUpTo l.verb (map string_bytes l.words) l.at;
}

abbrev pub decreases-loop-at : goal.decreases-loop-at
decreases-loop-at l = length l.words - l.at
