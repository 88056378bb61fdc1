-- How many units of 2^-32 are told: a number is squared 32 times by its first 63 binary digits, rounded down each time.
use Rattle.std.specs.Prelude.{ℕ, zero, suc, ◌+◌, ◌-◌, ◌*◌, ◌/◌, ◌^◌, List, [], ◌∷◌, cond, nat_lt}
use lib.Count.{count_leading_zeros}
use Rattle.fixed_log.specs.declared.log.Floating.{Floating}
use Rattle.fixed_log.specs.Entropy.{starts}

-- a number below 2^62 by its highest binary digit
abbrev pub floating : ℕ → Floating
floating n = record { mantissa = n * 2 ^ (62 - (63 - count_leading_zeros 64 n)); exponent = 63 - count_leading_zeros 64 n }

-- its square, rounded down to 63 binary digits
abbrev pub squared_down : Floating → Floating
squared_down f =
    cond (nat_lt (f.mantissa * f.mantissa) (2 ^ 125)) (record { mantissa = f.mantissa * f.mantissa / 2 ^ 62; exponent = 2 * f.exponent })
    (record { mantissa = f.mantissa * f.mantissa / 2 ^ 63; exponent = 2 * f.exponent + 1 })

unfoldable pub squares_down : ℕ → Floating → Floating
squares_down zero f = f
squares_down (suc k) f = squared_down (squares_down k f)

-- the binary logarithm of a number
abbrev pub log_units : ℕ → ℕ
log_units n = (squares_down 32 (floating n)).exponent

-- the sum of n * log2 n over some numbers
abbrev pub log_units_of : List ℕ → ℕ
log_units_of [] = 0
log_units_of (n ∷ ns) = n * log_units n + log_units_of ns

-- the Shannon entropy of classes of these sizes
abbrev pub entropy_units : List ℕ → ℕ
entropy_units ns = (starts ns * log_units (starts ns) - log_units_of ns) / starts ns
