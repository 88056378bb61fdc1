-- What the weights of classes tell of the starts, as lines of a text.
use Rattle.std.specs.Prelude.{◌≡◌, ℕ, ◌+◌, ◌-◌, ◌*◌, ◌/◌, ◌%◌, ◌^◌, ◌≤◌, List, [], ◌∷◌, ◌++◌, length, drop, min, max, cond, eqb, codes, decimal}
use Rattle.fixed_log.specs.Log.{IsLog}
use Rattle.fixed_log.specs.Entropy.{IsEntropy, starts, square_sum}
use Rattle.fixed_log.specs.Units.{log_units, entropy_units}

-- ---- numbers with nine decimals

-- a number of billionths, with a point and nine digits behind it
abbrev pub billionths : ℕ → List ℕ
billionths n = decimal (n / 1000000000) ++ (codes "." ++ drop 1 (decimal (1000000000 + n % 1000000000)))

-- The most billionths that are at most so many units of 2^-32, and the fewest that are at least so many.
abbrev pub down : ℕ → ℕ
down u = u * 1000000000 / 4294967296

abbrev pub up : ℕ → ℕ
up u = (u * 1000000000 + 4294967295) / 4294967296

-- what is printed of units of 2^-32 encloses them
abbrev pub Enclosed : Type 0
Enclosed = (u : ℕ) → (down u * 2 ^ 32 ≤ u * 1000000000) × (u * 1000000000 ≤ up u * 2 ^ 32)

-- words, and two ends between which a number of units of 2^-32 lies
abbrev pub interval_line : List ℕ → ℕ → ℕ → List ℕ
interval_line words low high = words ++ (billionths (down low) ++ (codes " to " ++ (billionths (up high) ++ codes "\n")))

-- ---- lines

abbrev pub counted : List ℕ → ℕ → List ℕ
counted words n = words ++ (decimal n ++ codes "\n")

-- the least and the greatest of some numbers and one more
abbrev pub least_of : ℕ → List ℕ → ℕ
least_of m [] = m
least_of m (w ∷ ws) = least_of (min m w) ws

abbrev pub greatest_of : ℕ → List ℕ → ℕ
greatest_of m [] = m
greatest_of m (w ∷ ws) = greatest_of (max m w) ws

-- `least A greatest B`
abbrev pub span_line : ℕ → ℕ → List ℕ
span_line least greatest = codes "least " ++ (decimal least ++ (codes " greatest " ++ (decimal greatest ++ codes "\n")))

-- how often the first guess of a start is right, of so many starts in so many classes: before the class is seen, and after
abbrev pub first_line : ℕ → ℕ → List ℕ
first_line size classes =
    codes "right at first 1 of " ++ (decimal size ++ (codes " before, " ++ (decimal classes ++ (codes " of " ++ (decimal size ++ codes " after\n")))))

-- How many guesses it takes on the average, of so many starts in classes of which the squares have this sum: (S + 1) / 2
-- before the class is seen, and (squares + S) / 2 S after.
abbrev pub guess_line : ℕ → ℕ → List ℕ
guess_line size squares =
    codes "guesses " ++ (decimal (size + 1) ++ (codes "/2 before, " ++ (decimal (squares + size) ++ (codes "/" ++ (decimal (2 * size) ++ codes " after\n")))))

-- Of starts whose class is told by their weights. The min-entropy and the lines on guesses are told where each start has
-- weight 1, so that all weights together are as many as the starts.
abbrev pub numbers_text : ℕ → List ℕ → ℕ → ℕ → List ℕ
numbers_text size ws log entropy =
    let even = eqb (starts ws) size in
    counted (codes "distinct ") (length ws)
    ++ (span_line (least_of (starts ws) ws) (greatest_of 0 ws)
    ++ (cond even (interval_line (codes "min-entropy ") log (log + 2)) []
    ++ (interval_line (codes "shannon ") (entropy - 2) (entropy + 3)
    ++ (cond even (first_line size (length ws)) [] ++ cond even (guess_line size (square_sum ws)) []))))

-- Nothing where there is no class. log units of 2^-32 are at most log2 of how many classes there are and less than two
-- units below it; and entropy units are at most two units above the Shannon entropy and less than three below it. Which
-- units these are is told by the rule of squares that are rounded down, so that the lines are one text.
abbrev pub AreNumbers : ℕ → List ℕ → List ℕ → Type 0
AreNumbers size [] x = x ≡ []
AreNumbers size (w ∷ ws) x =
    (log : ℕ) × (entropy : ℕ) × (log ≡ log_units (length (w ∷ ws))) × (entropy ≡ entropy_units (w ∷ ws))
    × IsLog 32 (length (w ∷ ws)) log × IsEntropy 32 (w ∷ ws) entropy × (x ≡ numbers_text size (w ∷ ws) log entropy)

-- of classes of these sizes one text is told
abbrev pub AreNumbersOnce : Type 0
AreNumbersOnce = (size : ℕ) (ws x y : List ℕ) → AreNumbers size ws x → AreNumbers size ws y → x ≡ y

-- these lines stand after a text
pub record NumbersPut (size : ℕ) (ws old new : List ℕ) : Type 0 where
  pub lines : List ℕ
  pub are : AreNumbers size ws lines
  pub put : new ≡ old ++ lines
