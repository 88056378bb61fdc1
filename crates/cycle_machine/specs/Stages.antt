-- Stages of 2^24 cycles, at whose ends a watch is told.
use Rattle.std.specs.Prelude.{ℕ, ◌+◌, ◌-◌, ◌%◌, ◌^◌, min}

-- the last cycle of the stage in which a clock stands, or the last that a clock can have
abbrev pub last_of_stage : ℕ → ℕ
last_of_stage clock = min (clock - clock % 16777216 + 16777215) (2 ^ 64 - 1)
