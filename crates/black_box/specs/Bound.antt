-- The number of different lists of releases.
use Rattle.std.specs.Prelude.{ℕ, ◌+◌, ◌^◌}
use Rattle.leak_bound.specs.Digits.{digits}

-- (t + 1) to the power of the binary digits of t
abbrev pub box_bound : ℕ → ℕ
box_bound t = (t + 1) ^ digits t
