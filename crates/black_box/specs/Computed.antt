-- The schedule, computed slot by slot.
use Rattle.std.specs.Prelude.{ℕ, zero, suc, ◌+◌, ◌*◌, Bool, true, false, List, [], ◌∷◌, drop, nat_le, if◌then◌else◌}
use Rattle.black_box.specs.Schedule.{is_due}

-- a slot: its cycle, and whether an event is released there. If none is, its epoch ends there.
pub record Slot : Type 0 where
  pub cycle : ℕ
  pub releases : Bool

-- The slots up to t. The next one is at s, in an epoch whose slots lie `len` apart, and rs are the events
-- that are left. Slots rise, so n of them suffice where t < s + n.
abbrev pub slots_from : ℕ → ℕ → ℕ → ℕ → List ℕ → List Slot
slots_from t zero s len rs = []
slots_from t (suc n) s len rs =
    if nat_le s t
    then (if is_due s rs
    then record { cycle = s; releases = true } ∷ slots_from t n (s + len) len (drop 1 rs)
    else record { cycle = s; releases = false } ∷ slots_from t n (s + 2 * len) (2 * len) rs)
    else []

-- the slots up to t, of which the first is at q
abbrev pub slots : ℕ → ℕ → List ℕ → List Slot
slots q t rs = slots_from t t q q rs

-- the cycles at which events are released
abbrev pub released : List Slot → List ℕ
released [] = []
released (x ∷ xs) = if x.releases then x.cycle ∷ released xs else released xs

-- how many epochs end
abbrev pub ended : List Slot → ℕ
ended [] = 0
ended (x ∷ xs) = if x.releases then ended xs else suc (ended xs)

-- the releases up to t of the events with these ready cycles
abbrev pub releases : ℕ → ℕ → List ℕ → List ℕ
releases q t rs = released (slots q t rs)

-- the epochs that begin by t: the first, and one wherever one ends
abbrev pub epochs : ℕ → ℕ → List ℕ → ℕ
epochs q t rs = suc (ended (slots q t rs))
