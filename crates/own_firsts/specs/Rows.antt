-- Rows of numbers of lists.
use Rattle.std.specs.Prelude.{ℕ, ◌≡◌, ◌-◌, ◌≤◌, List, Option, None, slice_index_or}
use Rattle.sharp_count.specs.Count.{fitting}
use Rattle.own_firsts.specs.Count.{lists_below}

-- at each place m up to d: how many lists there are of k numbers from m on, below d, for places from i on
abbrev pub IsRow : (ℕ → ℕ) → ℕ → ℕ → ℕ → List (Option ℕ) → Type 0
IsRow limits d i k row = (m : ℕ) → m ≤ d → slice_index_or row m None ≡ fitting (lists_below limits m (d - m) i k)
