-- Agreement over histories, in words of what is held.
use Rattle.std.specs.Prelude.{◌≡◌, ℕ, ◌<◌, List, length, IfSome}
use Rattle.label_lattice.specs.Lattice.{Lattice, Flows}
use Rattle.label_lattice.specs.Order.{Order}
use Rattle.mit_syntax.specs.Values.{read}
use Rattle.env_contract.specs.declared.place.Place.{Place}
use Rattle.env_contract.specs.declared.place.Touch.{Touch}
use Rattle.label_code.specs.Run.{Start}
use Rattle.part_tlb.specs.declared.bank.Bank.{Bank}
use Rattle.part_tlb.specs.declared.bank.Hardware.{Hardware}
use Rattle.part_tlb.specs.Machine.{bank_at, held_in}

module _ (hw : Hardware) (order : Order) where
  -- After both histories each set of each partition of a bank whose label flows to the observer holds the same: under the
  -- least recently used the tags since whose last touch fewer different tags than there are ways were touched there, the
  -- latest touched first; under the first that came the latest that came, as many as there are ways.
  abbrev pub BankHoldsAlike : Place → Lattice → ℕ → List Touch → List Touch → Bank → Type 0
  BankHoldsAlike p lat o h h' b =
      (l : ℕ) → Flows lat l o → (set : ℕ) → set < b.sets → held_in hw order b p h l set ≡ held_in hw order b p h' l set

  -- so it is of each bank of the machine
  abbrev pub HoldAlike : Lattice → ℕ → List Touch → List Touch → Type 0
  HoldAlike lat o h h' = (p : Place) → IfSome (bank_at hw p) (BankHoldsAlike p lat o h h')

  -- Two starts agree for an observer: variables whose labels flow to it have equal values, and after what was
  -- touched the sets of partitions whose labels flow to it hold the same.
  pub record AgreeInHeld (lat : Lattice) (g : ℕ → ℕ) (o : ℕ) (s s' : Start (List Touch)) : Type 0 where
    pub long : length s.memory ≡ length s'.memory
    pub low : (x : ℕ) → Flows lat (g x) o → read s.memory x ≡ read s'.memory x
    pub held : HoldAlike lat o s.env s'.env
