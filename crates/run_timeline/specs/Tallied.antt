-- A tally with one more mitigation.
use Rattle.std.specs.Prelude.{◌≡◌, ◌≤◌, ◌<◌, ℕ, ◌+◌, ◌^◌, List, length, Bool, min, max, cond, eqb, ltb, slice_index_or, slice_set}
use Rattle.run_timeline.specs.declared.moment.Moment.{Moment}
use Rattle.run_timeline.specs.declared.moment.Moment.TheVariants.{Assigned, Begins, Ends}
use Rattle.run_timeline.specs.declared.tally.Tally.{Tally}

abbrev pub no_tally : Tally
no_tally = record { ended = 0; shortest = 0; longest = 0; missed = 0 }

abbrev pub noted : Tally → ℕ → Bool → Tally
noted t w b = record {
  ended = t.ended + 1;
  shortest = cond (eqb t.ended 0) w (min t.shortest w);
  longest = max t.longest w;
  missed = cond b (t.missed + 1)
      t.missed;
}

-- the tally of the mark, with one more, where there is one
abbrev pub noted_at : List Tally → ℕ → ℕ → Bool → List Tally
noted_at ts k w b = slice_set ts k (noted (slice_index_or ts k no_tally) w b)

abbrev pub noted_moment : List Tally → Moment → List Tally
noted_moment ts (Assigned x n c) = ts
noted_moment ts (Begins k n d m c) = ts
noted_moment ts (Ends k w d m n c) = noted_at ts k w (ltb m n)

-- there is room for so many more
abbrev pub HasRoom : ℕ → Tally → Type 0
HasRoom n t = (t.ended + n < 2 ^ 64) × (t.missed ≤ t.ended)

abbrev pub HaveRoom : ℕ → List Tally → Type 0
HaveRoom n ts = (k : ℕ) (d : Tally) → k < length ts → HasRoom n (slice_index_or ts k d)

-- the same tallies, each with at most so many more
pub record Grown (n : ℕ) (old new : List Tally) : Type 0 where
  pub fit : length new ≡ length old
  pub each : (k : ℕ) (d : Tally) → k < length old → ((slice_index_or new k d).ended ≤ (slice_index_or old k d).ended + n)
      × ((slice_index_or new k d).missed ≤ (slice_index_or new k d).ended)
