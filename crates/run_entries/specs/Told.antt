-- The miss counts of a run, in the order in which its mitigations end.
use Rattle.std.specs.Prelude.{ℕ, ◌+◌, ◌-◌, List, [], ◌∷◌, ◌++◌, ℤ, None, Bool, true, false, cond, slice_index_or}
use Rattle.doubling_schedule.specs.Doubling.{misses_after}
use Rattle.label_code.specs.Machine.{Opened}
use Rattle.first_replay.specs.Replay.{What, Nothing, Pushed, Assigned, Opens, Closes, Entry, Timed, after, replay}

-- each mark, and those of which a list says so; past its end it says of none
abbrev pub every : ℕ → Bool
every k = true

abbrev pub is_marked : List Bool → ℕ → Bool
is_marked marked k = slice_index_or marked k false

-- of the mitigations with such marks
module _ (such : ℕ → Bool) where
  -- the miss count of the one that ends here, if one does
  abbrev pub told_at : What → ℕ → Timed → List Opened → List ℕ
  told_at Closes c t (o ∷ os) = cond (such o.mark) (misses_after o.estimate (c - o.since) (t.misses o.level) ∷ []) []
  told_at Closes c t [] = []
  told_at Nothing c t os = []
  told_at (Pushed a) c t os = []
  told_at (Assigned x n) c t os = []
  told_at (Opens n l k) c t os = []

  -- the miss counts of all that end
  abbrev pub counts_told : (ℕ → ℤ) → List Entry → Timed → List ℕ
  counts_told numbers [] t = []
  counts_told numbers (e ∷ es) t =
      told_at e.what (t.clock + e.cost) t t.opened ++ counts_told numbers es (after numbers e.what (t.clock + e.cost) t)

-- what is so as a run begins
abbrev pub at_start : Timed
at_start = record { clock = 0; misses = λ l. 0; opened = []; log = []; last = None }

-- what is so at the end of a run with these entries, where these numbers are pushed
abbrev pub replayed : (ℕ → ℤ) → List Entry → Timed
replayed numbers es = replay numbers es at_start

-- the miss counts of such a run, of the mitigations with such marks
abbrev pub told : (ℕ → Bool) → (ℕ → ℤ) → List Entry → List ℕ
told such numbers es = counts_told such numbers es at_start
