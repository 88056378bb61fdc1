-- What is told of the levels, by their numbers.
use Rattle.std.specs.Prelude.{ℕ, ◌+◌, ◌/◌, max, List, slice_index_or}
use Rattle.leak_bound.specs.Digits.{digits}
use Rattle.sharp_count.specs.declared.count.LevelRuns.{LevelRuns}
use Rattle.sharp_count.specs.declared.count.Runs.{Runs}
use Rattle.sharp_count.specs.declared.count.Runs.TheVariants.{Halted, Cut}

-- How many miss counts there are at which a mitigation can end by T, if its first prediction is e or more and at
-- least 1: as many as T div e has binary digits.
abbrev pub miss_counts : ℕ → ℕ → ℕ
miss_counts t e = digits (t / max e 1)

-- of a cut run one value more, for a mitigation that has not ended
abbrev pub values_by : Runs → ℕ → ℕ → ℕ
values_by Halted t e = miss_counts t e
values_by Cut t e = miss_counts t e + 1

-- what is told of the level with a number
abbrev pub told_of : List LevelRuns → ℕ → LevelRuns
told_of levels l = slice_index_or levels l (record { mitigations = 0; first = 0 })

abbrev pub counts_of : List LevelRuns → ℕ → ℕ
counts_of levels l = (told_of levels l).mitigations

abbrev pub firsts_of : List LevelRuns → ℕ → ℕ
firsts_of levels l = (told_of levels l).first

abbrev pub values_of : Runs → ℕ → List LevelRuns → ℕ → ℕ
values_of runs t levels l = values_by runs t (told_of levels l).first
