-- The pieces in which a run is written: a line each.
use Rattle.std.specs.Prelude.{◌≡◌, ◌⊎◌, ℕ, ℤ, List, All, Option}
use Rattle.tim_base.specs.Logs.{Offered, HasSent, HasBroken}
use Rattle.mit_syntax.specs.Declarations.{Declaration}
use Rattle.cycle_machine.specs.declared.end.RunEnd.{RunEnd}
use Rattle.event_print.specs.Text.{event_line, last_line}

-- the line of an assignment, or a last line
abbrev pub IsRunLine : List Declaration → List ℕ → Type 0
IsRunLine ds piece =
    ((x : ℕ) × (n : ℤ) × (c : ℕ) × (piece ≡ event_line ds x n c))
    ⊎ ((end : RunEnd) × (piece ≡ last_line end))

-- lines of a run are written, a piece each
pub record SendsLines (ds : List Declaration) (old new : Option (List Offered)) : Type 0 where
  pub pieces : List (List ℕ)
  pub lines : All (IsRunLine ds) pieces
  pub sent : HasSent old new pieces

-- and in one of them a write failed
pub record BreaksLines (ds : List Declaration) (old new : Option (List Offered)) : Type 0 where
  pub pieces : List (List ℕ)
  pub lines : All (IsRunLine ds) pieces
  pub broken : HasBroken old new pieces
