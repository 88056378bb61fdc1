-- The schedule by which the events of a run are released, said of the whole list of releases.
use Rattle.std.specs.Prelude.{◌≡◌, ℕ, zero, suc, ◌+◌, ◌*◌, ◌<◌, ◌≤◌, ◌==◌, ◌&&◌, if◌then◌else◌, nat_le, nat_lt, not, Bool, false, List, [], ◌∷◌, drop}
use Rattle.std.specs.Prelude.{count_by}
use Rattle.std.specs.List.{list_any}
use Rattle.leak_bound.specs.Records.{Each}

-- of the events that are left, with the cycles at which they are ready, there is a first, and it is ready by s
abbrev pub is_due : ℕ → List ℕ → Bool
is_due s [] = false
is_due s (r ∷ rs) = nat_le r s

-- a slot, and how far apart the slots of its epoch lie
pub record Place : Type 0 where
  pub cycle : ℕ
  pub apart : ℕ

-- an event is released at s
abbrev pub has : List ℕ → ℕ → Bool
has rs s = list_any (λ r. r == s) rs

-- the slot after one, where rs are all releases: after a release the epoch goes on; without one it ends there,
-- and the slots of the next epoch lie twice as far apart
abbrev pub slot_after : List ℕ → Place → Place
slot_after rs p =
    if has rs p.cycle
    then record { cycle = p.cycle + p.apart; apart = p.apart }
    else record { cycle = p.cycle + 2 * p.apart; apart = 2 * p.apart }

-- the slot with a number, counted from 0: the first epoch begins at cycle 0, and its slots lie q apart
abbrev pub nth_slot : ℕ → List ℕ → ℕ → Place
nth_slot q rs zero = record { cycle = q; apart = q }
nth_slot q rs (suc k) = slot_after rs (nth_slot q rs k)

-- each is below all that follow
abbrev pub Rises : List ℕ → Type 0
Rises [] = Unit {0}
Rises (x ∷ xs) = Each (λ y. x < y) xs × Rises xs

-- These are the releases up to t. They rise strictly, and each is a slot. At a slot up to t there is a release
-- exactly where the event whose number is that of the releases before the slot is there and ready.
pub record IsSchedule (q t : ℕ) (ready rs : List ℕ) : Type 0 where
  pub rises : Rises rs
  pub at_slots : Each (λ s. (s ≤ t) × ((k : ℕ) × (s ≡ (nth_slot q rs k).cycle))) rs
  pub exactly : (k : ℕ) → (nth_slot q rs k).cycle ≤ t
      → has rs (nth_slot q rs k).cycle ≡ is_due (nth_slot q rs k).cycle (drop (count_by (λ r. nat_lt r (nth_slot q rs k).cycle) rs) ready)

-- how many of the first n slots lie up to t and have no release
abbrev pub empty_slots : ℕ → ℕ → List ℕ → ℕ → ℕ
empty_slots q t rs zero = 0
empty_slots q t rs (suc k) =
    empty_slots q t rs k + (if nat_le (nth_slot q rs k).cycle t && not (has rs (nth_slot q rs k).cycle) then 1 else 0)

-- The epochs that begin by t: the first, and one at each slot up to t without a release. Slots rise, so those
-- up to t are among the first t.
abbrev pub begun_epochs : ℕ → ℕ → List ℕ → ℕ
begun_epochs q t rs = 1 + empty_slots q t rs t

-- the releases are those of the first events, in their order, and none comes before its event is ready
abbrev pub IsInOrder : List ℕ → List ℕ → Type 0
IsInOrder ready [] = Unit {0}
IsInOrder [] (s ∷ rs) = ⊥
IsInOrder (r ∷ ready) (s ∷ rs) = (r ≤ s) × IsInOrder ready rs
