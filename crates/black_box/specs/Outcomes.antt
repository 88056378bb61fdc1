-- What is answered of a run.
use Rattle.std.specs.Prelude.{◌≡◌, ℕ, List}
use Rattle.black_box.specs.declared.release.Releases.{Releases}
use Rattle.black_box.specs.Schedule.{IsSchedule, begun_epochs}
use Rattle.black_box.specs.Computed.{releases, epochs}

-- the releases up to a limit, and the number of epochs that begin by it
pub record Outcome : Type 0 where
  pub at : List ℕ
  pub epochs : ℕ

-- what a `Releases` is
abbrev pub seen : Releases → Outcome
seen r = record { at = r.at.items; epochs = r.epochs }

-- The outcome is the schedule's with first length q and limit t, for events with these ready cycles: the one
-- list of releases that is a schedule, and the epochs that begin by t.
pub record IsOutcome (q t : ℕ) (ready : List ℕ) (o : Outcome) : Type 0 where
  pub schedule : IsSchedule q t ready o.at
  pub only : (rs : List ℕ) → IsSchedule q t ready rs → rs ≡ o.at
  pub epochs : o.epochs ≡ begun_epochs q t o.at

-- the same, computed
abbrev pub outcome : ℕ → ℕ → List ℕ → Outcome
outcome q t rs = record { at = releases q t rs; epochs = epochs q t rs }
