-- How the ways are counted of one level whose mitigations share their time: by one power of two after another.
use Rattle.std.specs.Prelude.{◌≡◌, ℕ, zero, suc, ◌+◌, ◌-◌, ◌/◌, ◌%◌, ◌≤◌, leb, cond, List, [], slice_index, slice_index_or}
use Rattle.leak_bound.specs.Digits.{digits}

-- Of the lists of k miss counts below d that never fall: how many there are whose 2 ^ m add up, with what is spent, to no
-- more than `most`. Those with no 0 are counted by the halves of all these numbers, and the others begin with 0.
unfoldable pub shares : ℕ → ℕ → ℕ → ℕ → ℕ
shares d zero most spent = cond (leb spent most) 1 0
shares zero (suc k) most spent = 0
shares (suc d) (suc k) most spent = shares d (suc k) (most / 2) ((spent + 1 - most % 2) / 2) + shares (suc d) k most (spent + 1)

-- in a row for lists of k entries: at each place the number where as much is spent
abbrev pub IsRow : ℕ → ℕ → List ℕ → Type 0
IsRow most k row = (spent : ℕ) → spent + k ≤ 64 → slice_index row spent ≡ shares (digits most) k most spent

-- at each place the row for so many entries
abbrev pub IsTable : ℕ → List (List ℕ) → Type 0
IsTable most table = (k : ℕ) → k ≤ 64 → IsRow most k (slice_index_or table k [])
