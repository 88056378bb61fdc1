-- Entries that are kept joined: cycles that pass where nothing is seen are added to the next entry.
use Rattle.std.specs.Prelude.{◌≡◌, ◌+◌, ℕ, List, [], ◌∷◌, ℤ, Bool, Option, Some, None}
use Rattle.first_replay.specs.Replay.{What, Nothing, Pushed, Timed, replay}
use Rattle.run_entries.specs.declared.entry.Entry.{Entry}
use Rattle.run_entries.specs.declared.entry.Deed.TheVariants as deed
use Rattle.run_entries.specs.Entries.{entries_of}
use Rattle.run_entries.specs.Told.{counts_told}
use Rattle.entry_run.specs.declared.kept.Kept.{Kept}

-- after so many cycles more, where the last step may have pushed a number
abbrev pub idle : ℕ → Option ℕ → Timed → Timed
idle cycles last t = record t { clock = t.clock + cycles; last = last }

-- what is so after what is kept
abbrev pub kept_by : (ℕ → ℤ) → Kept → Timed → Timed
kept_by numbers k t = idle k.waiting k.pushed (replay numbers (entries_of k.entries.items) t)

-- the miss counts of what is kept, of the mitigations with such marks
abbrev pub counts_by : (ℕ → Bool) → (ℕ → ℤ) → Kept → Timed → List ℕ
counts_by such numbers k t = counts_told such numbers (entries_of k.entries.items) t

-- the last entry that is kept pushes no number
abbrev pub IsClosed : Kept → Type 0
IsClosed k = (numbers : ℕ → ℤ) (t : Timed) → t.last ≡ None → (replay numbers (entries_of k.entries.items) t).last ≡ None

-- the entry of a number that was pushed by the last step, if it pushed one, and the cycles that wait after it
abbrev pub number_first : ℕ → Option ℕ → List Entry
number_first waiting None = []
number_first waiting (Some place) = record { cost = waiting; deed = deed.Pushed place } ∷ []

abbrev pub still_waiting : ℕ → Option ℕ → ℕ
still_waiting waiting None = waiting
still_waiting waiting (Some place) = 0

-- what a last step did that may have pushed a number, and nothing else that is seen
abbrev pub last_what : Option ℕ → What
last_what None = Nothing
last_what (Some place) = Pushed place
