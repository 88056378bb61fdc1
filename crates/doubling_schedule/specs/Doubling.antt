-- Predictions that double at each miss.
use Rattle.std.specs.Prelude.{ℕ, zero, suc, ◌+◌, ◌*◌, ◌^◌, ◌<◌, ◌≤◌, max, leb, cond, ℤ, pos, negsuc}

-- at least 0
abbrev pub at_least_zero : ℤ → ℕ
at_least_zero (pos n) = n
at_least_zero (negsuc n) = 0

-- the prediction for an estimate after m misses
abbrev pub prediction : ℤ → ℕ → ℕ
prediction estimate m = max (at_least_zero estimate) 1 * 2 ^ m

-- m is the least count from old on whose prediction is above the elapsed time
pub record Settles (estimate : ℤ) (elapsed old m : ℕ) : Type 0 where
  pub from : old ≤ m
  pub above : elapsed < prediction estimate m
  pub least : (k : ℕ) → old ≤ k → elapsed < prediction estimate k → m ≤ k

-- that count, computed: it is reached within elapsed + 1 misses
abbrev pub settled : ℕ → ℤ → ℕ → ℕ → ℕ
settled zero estimate elapsed m = m
settled (suc fuel) estimate elapsed m = cond (leb (prediction estimate m) elapsed) (settled fuel estimate elapsed (suc m)) m

abbrev pub misses_after : ℤ → ℕ → ℕ → ℕ
misses_after estimate elapsed m = settled (elapsed + 1) estimate elapsed m
