-- How long a run may be asked for.
use Rattle.std.specs.Prelude.{ℕ, ◌≤◌, ◌^◌}

-- a budget in cycles: from 1 to 2^40
abbrev pub IsCycles : ℕ → Type 0
IsCycles n = (1 ≤ n) × (n ≤ 2 ^ 40)
