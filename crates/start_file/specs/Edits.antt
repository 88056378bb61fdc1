-- Values written into the memory.
use Rattle.std.specs.Prelude.{ℕ, ℤ, ◌+◌, ◌++◌, List, length, take, drop, Option, None, Some}
use Rattle.toml.specs.Data.{Data}
use Rattle.start_file.specs.declared.slot.Slot.{Slot}
use Rattle.start_file.specs.Values.{values_of}

-- the list with these values in place of as many from f on
abbrev pub splice : ℕ → List ℤ → List ℤ → List ℤ
splice f vs m = take f m ++ vs ++ drop (f + length vs) m

-- the memory after a name's value is written
abbrev pub written : Option Slot → Data → List ℤ → List ℤ
written None d m = m
written (Some s) d m = splice s.first (values_of s.length (Some d)) m
