-- The runs from starts, and the classes of these, or the first run because of which there are none.
use Rattle.std.specs.Prelude.{◌≡◌, ◌≤◌, ◌<◌, ℕ, zero, suc, ◌+◌, List, [], ◌∷◌, Option, Some, None, cond, nat_lt}
use Rattle.label_code.specs.Machine.{Event}
use Rattle.cycle_machine.specs.declared.end.RunEnd.{RunEnd}
use Rattle.cycle_machine.specs.declared.end.RunEnd.TheVariants.{Halted, Limit}
use Rattle.leak_classes.specs.declared.fault.WalkFault.{WalkFault}
use Rattle.leak_classes.specs.declared.fault.WalkFault.TheVariants.{Unfinished, TooMuch, Memory}
use Rattle.leak_classes.specs.Classes.{Classes, classes_shown, events_in}

-- why a run is refused: it has not halted; or else all different sequences have too many events with its own
abbrev pub refusal : RunEnd → ℕ → ℕ → Option WalkFault
refusal (Halted c) n events = cond (nat_lt 16777216 events) (Some (TooMuch events)) None
refusal (Limit c) n events = Some (Unfinished (n + 1) c)

-- of each start by its number: what its run shows, how it ends, and the weight of the start
module _ (seen : ℕ → List Event) (end : ℕ → RunEnd) (weight : ℕ → ℕ) where
  -- what so many runs show, from that of the start with the number n on, each with the weight of its start
  abbrev pub shown : ℕ → ℕ → List (List Event × ℕ)
  shown n zero = []
  shown n (suc c) = (seen n, weight n) ∷ shown (n + 1) c

  -- the classes of these starts
  abbrev pub classes_at : ℕ → ℕ → Classes
  classes_at n c = classes_shown n (shown n c)

  -- each of these runs has halted, and up to each of them all different sequences have at most 16,777,216 events together
  pub record AreKept (n c : ℕ) : Type 0 where
    pub halted : (i : ℕ) → i < c → (cycle : ℕ) × (end (n + i) ≡ Halted cycle)
    pub few : (i : ℕ) → i ≤ c → events_in (classes_at n i).seen ≤ 16777216

  -- the classes of so many starts, all of whose runs are kept
  pub record AreClasses (n c : ℕ) (k : Classes) : Type 0 where
    pub kept : AreKept n c
    pub classes : k ≡ classes_at n c

  -- the first run that is not kept: it has not halted
  pub record IsCut (n c number cycle : ℕ) : Type 0 where
    pub before : ℕ
    pub there : before < c
    pub kept : AreKept n before
    pub cut : end (n + before) ≡ Limit cycle
    pub number_is : number ≡ n + before + 1

  -- or it has halted, and with what it shows there are too many events
  pub record IsTooMuch (n c count : ℕ) : Type 0 where
    pub before : ℕ
    pub there : before < c
    pub kept : AreKept n before
    pub halted : (cycle : ℕ) × (end (n + before) ≡ Halted cycle)
    pub events : count ≡ events_in (classes_at n (before + 1)).seen
    pub many : 16777216 < count

  abbrev pub IsWalkFault : ℕ → ℕ → WalkFault → Type 0
  IsWalkFault n c (Unfinished number cycle) = IsCut n c number cycle
  IsWalkFault n c (TooMuch count) = IsTooMuch n c count
  IsWalkFault n c Memory = ⊥
