-- Entries as they are kept, and the numbers that are pushed, as a list by their places.
use Rattle.std.specs.Prelude.{ℕ, List, map, ℤ, pos, slice_index_or, cond, eqb}
use Rattle.first_replay.specs.Replay.{What, Nothing, Pushed, Assigned, Opens, Closes, Entry}
use Rattle.run_entries.specs.declared.entry.Deed.{Deed}
use Rattle.run_entries.specs.declared.entry.Deed.TheVariants as deed
use Rattle.run_entries.specs.declared.entry.Entry.{Entry as Kept}

abbrev pub what_of : Deed → What
what_of deed.Nothing = Nothing
what_of (deed.Pushed place) = Pushed place
what_of (deed.Assigned x n) = Assigned x n
what_of (deed.Opens o) = Opens o.estimate o.level.number o.mark
what_of deed.Closes = Closes

abbrev pub entry_of : Kept → Entry
entry_of e = record { cost = e.cost; what = what_of e.deed }

abbrev pub entries_of : List Kept → List Entry
entries_of es = map entry_of es

-- the number that is pushed at a place, by a list of numbers; past its end 0
abbrev pub pushed_by : List ℤ → ℕ → ℤ
pushed_by numbers place = slice_index_or numbers place (pos 0)

-- these numbers, with another one at one place
abbrev pub with_number : (ℕ → ℤ) → ℕ → ℤ → ℕ → ℤ
with_number numbers place n a = cond (eqb a place) n (numbers a)
