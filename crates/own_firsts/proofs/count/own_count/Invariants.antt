use Rattle.std.proofs.Common.{◌≡◌, ◌-◌, length}
use Rattle.std.specs.Prelude.{slice_index_or}
use Rattle.sharp_count.specs.Levels.{miss_counts}
use Rattle.own_firsts.specs.Rows.{IsRow}
use Rattle.own_firsts.proofs.count.own_count.Given as goal

-- the row for the mitigations from the place on
abbrev pub invariant-loop-place : goal.invariant-loop-place
invariant-loop-place l =
    (length l.row ≡ 65) × IsRow (λ i. miss_counts l.t (slice_index_or l.firsts i 0)) l.values l.place (length l.firsts - l.place) l.row
