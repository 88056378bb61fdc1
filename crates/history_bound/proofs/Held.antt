-- Agreement over histories is equality of what is held.
use Rattle.std.proofs.Common.{◌≡◌, ℕ, [], List, refl, Option, Some, None}
use Rattle.std.specs.Prelude.{◌↔◌, IfSome}
use Rattle.std.specs.Option.{option_map_or}
use Rattle.label_lattice.specs.Lattice.{Flows}
use Rattle.label_lattice.specs.Order.{Order, lattice_of}
use Rattle.env_contract.specs.declared.place.Place.{Place}
use Rattle.env_contract.specs.declared.place.Touch.{Touch}
use Rattle.env_contract.specs.Laws.{AgreeBelow}
use Rattle.label_code.specs.Run.{Start}
use Rattle.leak_bound.specs.Sound.{Agree}
use Rattle.part_tlb.specs.declared.bank.Bank.{Bank}
use Rattle.part_tlb.specs.declared.bank.Hardware.{Hardware}
use Rattle.part_tlb.specs.Machine.{bank_at, bank_part, hardware_by_history}
use Rattle.hardware.specs.Limits.{IsBank, HasBanks}
use Rattle.hardware.specs.Touching.{sets_from_numbers, numbers_from_sets}
use Rattle.history_bound.specs.Over.{AnyHistory}
use Rattle.history_bound.specs.Held.{BankHoldsAlike, HoldAlike, AgreeInHeld}

module _ (hw : Hardware) (has : HasBanks hw) (order : Order) (o : ℕ) (h h' : List Touch) where
  -- the parts of one place, by its bank
  abbrev Alike : Place → Option Bank → ℕ → Type 0
  Alike p b l = option_map_or (λ (b : Bank). bank_part hw order b p l h) b [] ≡ option_map_or (λ (b : Bank). bank_part hw order b p l h') b []

  bank_below : (p : Place) (b : Option Bank) → IfSome b IsBank → ((l : ℕ) → Flows (lattice_of order) l o → Alike p b l)
      → IfSome b (BankHoldsAlike hw order p (lattice_of order) o h h')
  bank_below p None is same = tt
  bank_below p (Some b) is same = λ l f. sets_from_numbers hw order b is p l l h h' (same l f)

  bank_above : (p : Place) (b : Option Bank) → IfSome b IsBank → IfSome b (BankHoldsAlike hw order p (lattice_of order) o h h')
      → (l : ℕ) → Flows (lattice_of order) l o → Alike p b l
  bank_above p None is alike l f = refl
  bank_above p (Some b) is alike l f = numbers_from_sets hw order b is p l h h' (alike l f)

  below : AgreeBelow (hardware_by_history hw order) (lattice_of order) o h h' → HoldAlike hw order (lattice_of order) o h h'
  below agree p = bank_below p (bank_at hw p) (has.each p) (agree p)

  above : HoldAlike hw order (lattice_of order) o h h' → AgreeBelow (hardware_by_history hw order) (lattice_of order) o h h'
  above alike p = bank_above p (bank_at hw p) (has.each p) (alike p)

pub agrees : (hw : Hardware) → HasBanks hw → (order : Order) (g : ℕ → ℕ) (o : ℕ) (s s' : Start (List Touch))
    → Agree (hardware_by_history hw order) (lattice_of order) (AnyHistory order) g o s s' ↔ AgreeInHeld hw order (lattice_of order) g o s s'
agrees hw has order g o s s' = (
  λ a. record { long = a.long; low = a.low; held = below hw has order o s.env s'.env a.parts },
  λ a. record { one = tt; other = tt; long = a.long; low = a.low; parts = above hw has order o s.env s'.env a.held },
)
