-- Starts of which a view is worth all that the number of views allows.
use Rattle.std.specs.Prelude.{◌≡◌, ℕ, ◌*◌, ◌^◌, ◌<◌, List, eqb, cond, map}
use Rattle.leak_bound.specs.Records.{distinct_count}
use Rattle.gain_bound.specs.Gain.{sum_over, best_gain, gain_after}
use Rattle.gain_bound.specs.Information.{product_over, weight_at}

-- a guess gains 1 where it is right
abbrev pub is_right : ℕ → ℕ → ℕ
is_right a x = cond (eqb a x) 1 0

-- Each start shows itself, and has weight 1.
abbrev pub itself : ℕ → ℕ
itself x = x

abbrev pub even : ℕ → ℕ
even x = 1

-- For each n there are starts that show n views. One guess of them gains 1 without the view, and n with it; and the view tells
-- log2 n bits.
pub record IsReached (n : ℕ) (xs : List ℕ) : Type 0 where
  pub views : distinct_count eqb (map itself xs) ≡ n
  pub before : best_gain even is_right xs xs ≡ 1
  pub after : gain_after itself eqb even is_right xs xs ≡ n
  pub bits : sum_over even xs ^ sum_over even xs ≡ n ^ sum_over even xs * product_over (λ x. weight_at itself eqb even xs (itself x) ^ even x) xs

abbrev pub WorthReached : Type 0
WorthReached = (n : ℕ) → 0 < n → (xs : List ℕ) × IsReached n xs
