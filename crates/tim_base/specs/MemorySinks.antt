-- The sink in memory, as contracts see it.
use Rattle.std.specs.Prelude.{ℕ, ◌+◌, ◌||◌, Bool, nat_lt, List, [], length}
use Rattle.tim_base.specs.Faults.{fails_at}

-- the bytes taken so far, how many fit, how many writes there were up to the counter's last value, the
-- numbers of those that are to fail, and the count of faults
pub record MemorySink : Type 0 where
  pub bytes : List ℕ
  pub room : ℕ
  pub calls : ℕ
  pub failing : List ℕ
  pub faults : ℕ

-- nothing taken, counted or listed so far
abbrev pub empty_sink : ℕ → MemorySink
empty_sink room = record { bytes = []; room = room; calls = 0; failing = []; faults = 0 }

-- the next write fails: its number is listed or the piece does not fit
abbrev pub write_fails : MemorySink → List ℕ → Bool
write_fails sink piece = fails_at sink.failing sink.calls || nat_lt sink.room (length sink.bytes + length piece)
