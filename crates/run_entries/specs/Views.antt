-- What a replay stands for.
use Rattle.std.specs.Prelude.{◌≡◌, ◌≤◌, ◌<◌, ◌++◌, ℕ, List, map, reverse, ℤ, Bool, true, false, slice_index_or}
use Rattle.label_code.specs.Machine.{Event, Wrote, Began, Ended, Opened}
use Rattle.first_replay.specs.Replay.{What, Entry, Timed, after}
use Rattle.run_entries.specs.declared.event.Event.{Event as Kept}
use Rattle.run_entries.specs.declared.event.Event.TheVariants as kept
use Rattle.run_entries.specs.declared.entry.Begun.{Begun}
use Rattle.run_entries.specs.declared.replay.Numbers.{Numbers}
use Rattle.run_entries.specs.declared.replay.Replay.{Replay}
use Rattle.run_entries.specs.Entries.{pushed_by, with_number}
use Rattle.run_entries.specs.Told.{every, is_marked, told_at, replayed, told}

abbrev pub opened_of : Begun → Opened
opened_of o = record { estimate = o.estimate; level = o.level.number; mark = o.mark; since = o.since }

-- miss counts by the numbers of levels
abbrev pub counts : List ℕ → ℕ → ℕ
counts ms l = slice_index_or ms l 0

abbrev pub numbers_of : Numbers → ℕ → ℤ
numbers_of n = with_number (pushed_by n.written.now) n.place n.number

abbrev pub event_of : Kept → Event
event_of (kept.Wrote x n c) = Wrote x n c
event_of (kept.Began k c) = Began k c
event_of (kept.Ended k c) = Ended k c

abbrev pub timed_of : Replay → Timed
timed_of r = record {
  clock = r.clock;
  misses = counts r.misses;
  opened = map opened_of (reverse r.opened.items);
  log = map event_of r.log.items;
  last = r.pushed;
}

-- it is the run with these entries where these numbers are pushed, and ends within the limit; the miss counts of those with
-- the marks of a list are shown
pub record IsReplay (numbers : ℕ → ℤ) (marked : List Bool) (es : List Entry) (limit : ℕ) (r : Replay) : Type 0 where
  pub timed : timed_of r ≡ replayed numbers es
  pub counts : r.counts.items ≡ told every numbers es
  pub shown : r.shown.items ≡ told (is_marked marked) numbers es
  pub within : r.clock ≤ limit

-- an entry, at the clock after its cycles, was done by the limit
pub record Went (numbers : ℕ → ℤ) (marked : List Bool) (what : What) (clock limit : ℕ) (old new : Replay) : Type 0 where
  pub timed : timed_of new ≡ after numbers what clock (timed_of old)
  pub counts : new.counts.items ≡ old.counts.items ++ told_at every what clock (timed_of old) (timed_of old).opened
  pub shown : new.shown.items ≡ old.shown.items ++ told_at (is_marked marked) what clock (timed_of old) (timed_of old).opened
  pub within : new.clock ≤ limit

-- whether it was done by the limit; if not, it ends after it
abbrev pub Goes : Bool → (ℕ → ℤ) → List Bool → What → ℕ → ℕ → Replay → Replay → Type 0
Goes true numbers marked what clock limit old new = Went numbers marked what clock limit old new
Goes false numbers marked what clock limit old new = limit < (after numbers what clock (timed_of old)).clock
