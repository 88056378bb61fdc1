-- Which intervals begin with a choice that is best, told by comparing them.
use Rattle.std.specs.Prelude.{◌&&◌, ◌||◌, not, ℕ, leb, ltb, Bool, List}
use Rattle.std.specs.List.{list_any, filter}
use Rattle.first_front.specs.declared.interval.Interval.{Interval}

-- all runs end by the limit with m, which tells at most as much as n and costs at most as much, and less of either or is less
abbrev pub beats : ℕ → Interval → Interval → Bool
beats limit m n =
    leb m.latest limit && (leb m.things n.things && (leb m.cost n.cost && (ltb m.things n.things || (ltb m.cost n.cost || ltb m.first n.first))))

abbrev pub is_beaten : ℕ → List Interval → Interval → Bool
is_beaten limit is n = list_any (λ m. beats limit m n) is

abbrev pub is_chosen : ℕ → List Interval → Interval → Bool
is_chosen limit is n = leb n.latest limit && not (is_beaten limit is n)

abbrev pub chosen : ℕ → List Interval → List Interval
chosen limit is = filter (λ n. is_chosen limit is n) is
