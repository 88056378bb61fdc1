-- First predictions of one mitigate, all others being kept, with which a run has the same miss counts.
use Rattle.std.specs.Prelude.{◌≡◌, ◌≤◌, ℕ, List, ℤ, Bool, pos}
use Rattle.first_replay.specs.Replay.{Entry}
use Rattle.run_entries.specs.Entries.{with_number}
use Rattle.run_entries.specs.Told.{every, replayed, told}

-- Where a run has the same miss counts with two numbers at a place, it has them with each number between, those of all
-- mitigations and so of any of them, and ends no earlier with it than with the lower one. So the numbers with these miss
-- counts are an interval, whose end is found by halving, and whose least is the cheapest.
abbrev pub ToldBetween : Type 0
ToldBetween =
    (numbers : ℕ → ℤ) (place low n high : ℕ) (es : List Entry) → 1 ≤ low → low ≤ n → n ≤ high →
    told every (with_number numbers place (pos low)) es ≡ told every (with_number numbers place (pos high)) es →
    ((such : ℕ → Bool) → told such (with_number numbers place (pos n)) es ≡ told such (with_number numbers place (pos low)) es)
    × ((replayed (with_number numbers place (pos low)) es).clock ≤ (replayed (with_number numbers place (pos n)) es).clock)
