-- The elements of an array.
use Rattle.std.proofs.Common.{◌≡◌, ℕ, ◌+◌, ◌*◌, ◌/◌, ◌<◌, ap, ◌⊎◌, inl, inr, arith, mod-lt, div-add-mod'}
use Rattle.std.specs.Prelude.{ℤ, pos, negsuc, ◌+ℤ◌}
use Rattle.std.proofs.lemmas.Int.{ints}
use Rattle.mit_syntax.specs.Values.{place_of, element}
use Rattle.timing_types.specs.Arrays.{IsArray}

pub place_below : (n : ℕ) (z : ℤ) → 0 < n → place_of n z < n
place_below n (pos k) h = mod-lt k h
place_below n (negsuc k) h = omega arith

pub element_label : (g : ℕ → ℕ) (f n : ℕ) (z : ℤ) → IsArray g f n → g (element f n z) ≡ g f
element_label g f n z h = h.same (place_of n z) (place_below n z h.some)

-- the place differs from the index by a multiple of the length
pub place_differs : (n : ℕ) (z : ℤ) → 0 < n → (q : ℕ) × ((z ≡ pos (place_of n z + q * n)) ⊎ (z +ℤ pos (q * n) ≡ pos (place_of n z)))
place_differs n (pos k) h = (k / n, inl (ap pos (omega (arith, div-add-mod' k n))))
place_differs n (negsuc k) h = (k / n + 1, inr (omega (arith, ints, div-add-mod' k n, mod-lt k h)))
