-- The sharp count: for each level, how many lists of miss counts never fall.
use Rattle.std.specs.Prelude.{ℕ, zero, suc, ◌+◌, ◌-◌, ◌*◌}

-- the ways to choose k of n things, by Pascal's rule
abbrev pub choose : ℕ → ℕ → ℕ
choose n zero = 1
choose zero (suc k) = 0
choose (suc n) (suc k) = choose n k + choose n (suc k)

-- how many lists there are of k numbers below b that never fall
abbrev pub rising : ℕ → ℕ → ℕ
rising b k = choose (k + b - 1) k

-- the product of these numbers over the levels below n, each with its number of values and its count
abbrev pub sharp : (ℕ → ℕ) → ℕ → (ℕ → ℕ) → ℕ
sharp values zero counts = 1
sharp values (suc l) counts = rising (values l) (counts l) * sharp values l counts
