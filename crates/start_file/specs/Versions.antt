-- The version of a start file.
use Rattle.std.specs.Prelude.{pos, ℤ, if◌then◌else◌, Bool, true, false, Option, None, Some}
use Rattle.std.specs.Ordering.{int_eq}
use Rattle.toml.specs.Data.{Data, integer}
use Rattle.start_file.specs.declared.version.Version.{Version}
use Rattle.start_file.specs.declared.version.Version.TheVariants.{One, Two}

-- the integer 1 or 2
abbrev pub numbered : ℤ → Option Version
numbered z = if int_eq z (pos 1) then Some One else if int_eq z (pos 2) then Some Two else None

-- what a file states, and 1 where it states nothing
abbrev pub version_of : Option Data → Option Version
version_of None = Some One
version_of (Some (integer z)) = numbered z
version_of (Some _) = None

-- version 3
abbrev pub is_three : Option Data → Bool
is_three (Some (integer z)) = int_eq z (pos 3)
is_three _ = false

-- whether arrays may be named, and touches of the second level written
abbrev pub is_two : Version → Bool
is_two One = false
is_two Two = true
