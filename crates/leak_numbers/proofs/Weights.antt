-- Weights of classes none of which is empty.
use Rattle.std.proofs.Common.{◌≤◌, ◌^◌, ℕ, List, [], ◌∷◌, length, arith}
use Rattle.std.proofs.lemmas.Nat.{mul-le}
use Rattle.fixed_log.specs.Entropy.{AllSome, starts, square_sum}
use Rattle.fixed_log.proofs.Classes.{squares_few}
use Rattle.leak_numbers.specs.Numbers.{Enclosed}

pub some_starts : (ws : List ℕ) → AllSome ws → length ws ≤ starts ws
some_starts [] h = omega arith
some_starts (w ∷ ws) h = let one = h.0 in let rest = some_starts ws h.1 in omega (arith, one, rest)

pub few_squares : (ws : List ℕ) → starts ws ≤ 2 ^ 40 → square_sum ws ≤ 2 ^ 80
few_squares ws few = let h = squares_few ws in let top = mul-le (starts ws) (starts ws) (2 ^ 40) (2 ^ 40) few few in omega (arith, h, top)

pub enclosed : Enclosed
enclosed u = (omega arith, omega arith)
