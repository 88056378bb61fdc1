-- Sets of variables as rows of bits.
use Rattle.std.specs.Prelude.{◌≡◌, ℕ, ◌/◌, ◌%◌, ◌<◌, Bool, true, eqb, List, slice_index_or}
use Rattle.std.specs.Int.{bit_at}

-- whether the set has a variable: the bit with its number
abbrev pub has_in : List ℕ → ℕ → Bool
has_in words x = eqb (bit_at (slice_index_or words (x / 64) 0) (x % 64)) 1

-- two words have a bit in common
abbrev pub SharesBit : ℕ → ℕ → Type 0
SharesBit a b = (i : ℕ) × (i < 64) × (bit_at a i ≡ 1) × (bit_at b i ≡ 1)

-- two sets have a variable in common
abbrev pub Meet : (ℕ → Bool) → (ℕ → Bool) → Type 0
Meet a b = (x : ℕ) × (a x ≡ true) × (b x ≡ true)
