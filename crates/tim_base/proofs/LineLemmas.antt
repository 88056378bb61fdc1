-- What fits a line: the lengths of numbers, and of a line after bytes were appended.
use Rattle.std.proofs.Common.{◌≡◌, ℕ, ◌+◌, ◌^◌, ◌<◌, ◌≤◌, ◌++◌, List, length, ℤ, arith, ap}
use Rattle.std.proofs.lemmas.List.{length-append}
use Rattle.std.proofs.lemmas.Fmt.{length-decimal-le, length_signed_le}
use Rattle.std.specs.Fmt.{decimal, signed_decimal}
use lib.Signed.{mag}

-- a number of 64 bits has at most 20 digits
pub length-decimal : (n : ℕ) → n < 2 ^ 64 → length (decimal n) ≤ 20
length-decimal n h = length-decimal-le 20 n (omega arith) (omega (arith, h)) h

-- and a signed one is at most 20 bytes long
pub length-signed_decimal : (z : ℤ) → mag z < 2 ^ 63 → length (signed_decimal z) ≤ 20
length-signed_decimal z h = length_signed_le 19 z (omega (arith, h)) h

-- a line after bytes were appended
pub length-appended : (new old bytes : List ℕ) (n m : ℕ) → new ≡ old ++ bytes → length old ≤ n → length bytes ≤ m → length new ≤ n + m
length-appended new old bytes n m e p q =
    let is = length-append old bytes in
    let same : length new ≡ length (old ++ bytes) = ap length e in
    omega (arith, is, same, p, q)
