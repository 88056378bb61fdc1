-- What settling gives: it never lowers a count, and its prediction is above the elapsed time.
use Rattle.std.proofs.Common.{ℕ, ◌*◌, ◌≤◌, ◌<◌, arith}
use Rattle.std.specs.Prelude.{ℤ, max}
use Rattle.std.proofs.Math.Nat.{le-max_right, mul-le-mul_right}
use Rattle.doubling_schedule.specs.Doubling.{prediction, misses_after}
use Rattle.doubling_schedule.proofs.SettleLemmas.{misses_after-settles}

pub one_up : (n p : ℕ) → p ≤ max n 1 * p
one_up n p = omega (arith, mul-le-mul_right p (le-max_right n 1))

-- a count never falls
pub misses_up : (n : ℤ) (elapsed m : ℕ) → m ≤ misses_after n elapsed m
misses_up n elapsed m = (misses_after-settles n elapsed m).from

-- the prediction is above the elapsed time
pub misses_enough : (n : ℤ) (elapsed m : ℕ) → elapsed < prediction n (misses_after n elapsed m)
misses_enough n elapsed m = (misses_after-settles n elapsed m).above
