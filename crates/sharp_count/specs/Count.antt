-- A count that can be told.
use Rattle.std.specs.Prelude.{ℕ, ◌^◌, ltb, cond, Option, Some, None}

-- a number, if it is below 2 ^ 128
abbrev pub fitting : ℕ → Option ℕ
fitting n = cond (ltb n (2 ^ 128)) (Some n) None
