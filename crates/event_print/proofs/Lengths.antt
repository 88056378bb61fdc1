-- How long lines are.
use Rattle.std.proofs.Common.{◌≡◌, ◌≤◌, ◌<◌, ◌+◌, ◌^◌, ℕ, List, ◌++◌, length, ap, arith, w64, to_z, of_z}
use Rattle.std.specs.Prelude.{ℤ}
use Rattle.std.specs.Fmt.{signed_decimal}
use Rattle.std.specs.Int.Signed.{mag}
use Rattle.std.proofs.lemmas.Int.{to_z-of_z}
use Rattle.tim_base.proofs.LineLemmas.{length-signed_decimal, length-appended}

-- a signed number as it is read back from its bits
pub signed_short : (z : ℤ) → mag z < 2 ^ 63 → length (signed_decimal (to_z w64 (of_z w64 z))) ≤ 20
signed_short z h = omega (arith, ap (λ n. length (signed_decimal n)) (to_z-of_z w64 z (record { sfits = h })), length-signed_decimal z h)

pub longer : (new old text : List ℕ) (k m n : ℕ) → new ≡ old ++ text → length old ≤ k → length text ≤ m → k + m ≤ n → length new ≤ n
longer new old text k m n e a b c = omega (arith, length-appended new old text k m e a b)
