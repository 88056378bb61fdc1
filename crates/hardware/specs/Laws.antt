-- Which laws of an environment a machine keeps.
use Rattle.std.specs.Prelude.{◌≡◌, ℕ, List, Some}
use Rattle.label_lattice.specs.Lattice.{Lattice, Flows, IsLattice}
use Rattle.label_lattice.specs.Order.{Order, lattice_of}
use Rattle.env_contract.specs.declared.place.Kind.{Kind}
use Rattle.env_contract.specs.declared.place.Place.{Place}
use Rattle.env_contract.specs.declared.place.Touch.{Touch}
use Rattle.env_contract.specs.Env.{Env}
use Rattle.env_contract.specs.Laws.{AgreeBelow, IsLawful}
use Rattle.part_tlb.specs.declared.bank.Bank.{Bank}
use Rattle.part_tlb.specs.declared.bank.Hardware.{Hardware}
use Rattle.part_tlb.specs.declared.bank.Sharing.TheVariants.{Partitioned, Shared}
use Rattle.part_tlb.specs.Machine.{bank_at, hardware_by_history}
use Rattle.hardware.specs.Limits.{HasBanks}

-- every history serves
abbrev pub AnyTouches : Order → List Touch → Type 0
AnyTouches order history = Unit {0}

-- the three laws, for every lattice
abbrev pub Lawful : (Order → Env (List Touch)) → Type 0
Lawful v = (order : Order) → IsLattice (lattice_of order) → IsLawful (v order) (lattice_of order) (AnyTouches order)

-- a machine with partitions keeps them, whatever its sizes and costs
abbrev pub PartitionedAreLawful : Type 0
PartitionedAreLawful = (hw : Hardware) → HasBanks hw → hw.sharing ≡ Partitioned → Lawful (hardware_by_history hw)

-- Two of the three laws: a cost depends on the parts at or below the read label alone, and states that agree below a
-- label still do after the same access.
pub record ReadsAndAgrees (v : Order → Env (List Touch)) : Type 0 where
  pub read_label : (order : Order) → IsLattice (lattice_of order) → (k : Kind) (a er ew : ℕ) (h h' : List Touch)
      → AgreeBelow (v order) (lattice_of order) er h h' → (v order).cost_of k a er ew h ≡ (v order).cost_of k a er ew h'
  pub agreement : (order : Order) → IsLattice (lattice_of order) → (k : Kind) (a er ew o : ℕ) (h h' : List Touch)
      → AgreeBelow (v order) (lattice_of order) o h h'
      → AgreeBelow (v order) (lattice_of order) o ((v order).next_of k a er ew h) ((v order).next_of k a er ew h')

-- every machine keeps these two, shared or not
abbrev pub AllReadAndAgree : Type 0
AllReadAndAgree = (hw : Hardware) → HasBanks hw → ReadsAndAgrees (hardware_by_history hw)

-- An access changes a part of a label to which its write label does not flow.
pub record BreaksWriteLabel (v : Env (List Touch)) (lat : Lattice) : Type 0 where
  pub kind : Kind
  pub address : ℕ
  pub er : ℕ
  pub ew : ℕ
  pub place : Place
  pub label : ℕ
  pub history : List Touch
  pub apart : Flows lat ew label → ⊥
  pub changed : v.part place label (v.next_of kind address er ew history) ≡ v.part place label history → ⊥

-- a machine whose banks all labels share breaks the third law, wherever it has a bank and there are two labels
abbrev pub SharedBreak : Type 0
SharedBreak = (hw : Hardware) → HasBanks hw → hw.sharing ≡ Shared → (p : Place) (b : Bank) → bank_at hw p ≡ Some b
    → (order : Order) → IsLattice (lattice_of order) → (other : ℕ) → (other ≡ order.bottom → ⊥)
    → BreaksWriteLabel (hardware_by_history hw order) (lattice_of order)
