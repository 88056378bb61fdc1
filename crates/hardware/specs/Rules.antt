-- Machines with any rule of replacement, and any touches that an access adds.
use Rattle.std.specs.Prelude.{◌≡◌, ◌<◌, Some, ℕ, ◌+◌, ◌/◌, ◌*◌, ◌%◌, Bool, false, cond, eqb, ltb, ◌&&◌, List, [], ◌∷◌, ◌++◌, length, map, drop, slice_set}
use Rattle.std.specs.Prelude.{IfSome}
use Rattle.std.specs.List.{range_with_len, list_any}
use Rattle.std.specs.Option.{option_map_or}
use Rattle.label_lattice.specs.Lattice.{Lattice, IsLattice}
use Rattle.label_lattice.specs.Order.{Order, lattice_of}
use Rattle.env_contract.specs.declared.place.Kind.{Kind}
use Rattle.env_contract.specs.declared.place.Place.{Place}
use Rattle.env_contract.specs.declared.place.Place.TheVariants.{Page, Second}
use Rattle.env_contract.specs.declared.place.Touch.{Touch}
use Rattle.env_contract.specs.Env.{Env}
use Rattle.env_contract.specs.Alike.{DoesAs}
use Rattle.env_contract.specs.Laws.{AgreeBelow}
use Rattle.part_cache.specs.declared.replacement.Replacement.{Replacement}
use Rattle.part_cache.specs.History.{tags_in, some_below}
use Rattle.part_cache.specs.Rows.{numbers_of}
use Rattle.part_cache.specs.Ways.{replaced}
use Rattle.part_tlb.specs.Machine.{line_place}
use Rattle.part_tlb.specs.declared.bank.Bank.{Bank}
use Rattle.part_tlb.specs.declared.bank.Hardware.{Hardware}
use Rattle.part_tlb.specs.declared.bank.Sharing.TheVariants.{Partitioned}
use Rattle.part_tlb.specs.Machine.{bank_at, home, touch_at, accessed, touches_in, hits_at, access_cost, part_at, hardware_by_history}
use Rattle.hardware.specs.Limits.{HasBanks}
use Rattle.hardware.specs.Laws.{Lawful}

-- A rule of replacement: what a set is at first, what it is after a touch of a tag where it has so many ways, whether it
-- holds a tag, and all that it is, as numbers.
pub record Rule (S : Type 0) : Type 0 where
  pub empty : S
  pub touch : ℕ → ℕ → S → S
  pub has : ℕ → S → Bool
  pub numbers : S → List ℕ

-- the numbers tell all
abbrev pub IsTold : {S : Type 0} → Rule S → Type 0
IsTold {S} rule = (s t : S) → rule.numbers s ≡ rule.numbers t → s ≡ t

-- a set after touches, the oldest first
abbrev pub set_after : {S : Type 0} → Rule S → ℕ → S → List ℕ → S
set_after rule ways s [] = s
set_after rule ways s (tag ∷ tags) = set_after rule ways (rule.touch ways tag s) tags

-- the rule that a machine's bank names
abbrev pub rule_of : Replacement → Rule (List ℕ)
rule_of r = record { empty = []; touch = replaced r; has = λ tag s. list_any (eqb tag) s; numbers = λ s. s }

-- One that a count from a seed chooses goes. The count goes on only where a tag goes.
abbrev pub chosen_touch : ℕ → ℕ → List ℕ → List ℕ
chosen_touch ways tag [] = []
chosen_touch ways tag (seed ∷ s) =
    cond (list_any (eqb tag) s) (seed ∷ s)
    (cond (ltb (length s) ways) (seed ∷ (tag ∷ s)) ((seed * 1103515245 + 12345) % 2147483648 ∷ slice_set s (seed / 65536 % ways) tag))

abbrev pub chosen_from : ℕ → Rule (List ℕ)
chosen_from seed = record { empty = seed ∷ []; touch = chosen_touch; has = λ tag s. list_any (eqb tag) (drop 1 s); numbers = λ s. s }

-- an address at a place, which an access touches
pub record Spot : Type 0 where
  pub place : Place
  pub address : ℕ

-- the history with touches added
abbrev pub all_touched : List Spot → ℕ → List Touch → List Touch
all_touched [] ew history = history
all_touched (s ∷ spots) ew history = all_touched spots ew (touch_at s.place s.address ew history)

-- what an access touches by itself
abbrev pub own_spots : Kind → ℕ → List Spot
own_spots k a = record { place = Page; address = a } ∷ record { place = line_place k; address = a } ∷ record { place = Second; address = a } ∷ []

-- and with the next line of so many bytes, which is fetched with each line
abbrev pub next_line : ℕ → Kind → ℕ → List Spot
next_line bytes k a = own_spots k a ++ record { place = line_place k; address = a + bytes } ∷ record { place = Second; address = a + bytes } ∷ []

module _ {S : Type 0} (rule : Rule S) (hw : Hardware) (order : Order) where
  abbrev pub set_in : Bank → Place → List Touch → ℕ → ℕ → S
  set_in b p history label set = set_after rule b.ways rule.empty (tags_in b.sets label set (touches_in hw order b p history))

  abbrev pub ruled_hits : Bank → Place → List Touch → ℕ → ℕ → Bool
  ruled_hits b p history er address =
      some_below order.size (λ label. (lattice_of order).flows label (home hw order er)
      && rule.has (address / b.bytes) (set_in b p history label (address / b.bytes % b.sets)))

  abbrev pub ruled_hits_at : Place → List Touch → ℕ → ℕ → Bool
  ruled_hits_at p history er address = option_map_or (λ b. ruled_hits b p history er address) (bank_at hw p) false

  abbrev pub ruled_cost_at : Place → List Touch → ℕ → ℕ → ℕ
  ruled_cost_at p history er address = option_map_or (λ (b : Bank). cond (ruled_hits b p history er address) b.hit b.miss) (bank_at hw p) 0

  abbrev pub ruled_cost : Kind → ℕ → ℕ → List Touch → ℕ
  ruled_cost k address er history =
      ruled_cost_at Page history er address + ruled_cost_at (line_place k) history er address
      + cond (ruled_hits_at (line_place k) history er address) 0 (ruled_cost_at Second history er address)

  abbrev pub ruled_bank : Bank → Place → ℕ → List Touch → List ℕ
  ruled_bank b p label history = numbers_of (map (λ set. rule.numbers (set_in b p history label set)) (range_with_len 0 b.sets))

  abbrev pub ruled_part : Place → ℕ → List Touch → List ℕ
  ruled_part p label history = option_map_or (λ (b : Bank). ruled_bank b p label history) (bank_at hw p) []

-- the environment of a machine with a rule of replacement, in which an access adds touches by its kind and address alone
abbrev pub ruled_by_history : {S : Type 0} → Rule S → (Kind → ℕ → List Spot) → Hardware → Order → Env (List Touch)
ruled_by_history rule adds hw order =
    record {
      cost_of = λ k address er ew history. ruled_cost rule hw order k address er history;
      next_of = λ k address er ew history. all_touched (adds k address) ew history;
      part = ruled_part rule hw order;
    }

-- each such machine with partitions keeps the laws
abbrev pub RuledAreLawful : {S : Type 0} → Rule S → Type 0
RuledAreLawful rule = (adds : Kind → ℕ → List Spot) (hw : Hardware) → HasBanks hw → hw.sharing ≡ Partitioned → Lawful (ruled_by_history rule adds hw)

-- each bank of the machine replaces by the rule
abbrev pub ReplacesBy : Replacement → Hardware → Type 0
ReplacesBy r hw = (p : Place) → IfSome (bank_at hw p) (λ (b : Bank). b.replacement ≡ r)

-- the machine with that rule, whose accesses touch nothing more, is the machine
abbrev pub RuleIsMachine : Replacement → Type 0
RuleIsMachine r = (hw : Hardware) → HasBanks hw → ReplacesBy r hw → (order : Order)
    → DoesAs (ruled_by_history (rule_of r) own_spots hw order) (hardware_by_history hw order) order.size (λ h g. h ≡ g)

-- What a machine is not to do: a machine with partitions in which an access touches nothing where its line hit.
abbrev pub fills_on_a_miss : Hardware → Order → Env (List Touch)
fills_on_a_miss hw order =
    record {
      cost_of = λ k address er ew history. access_cost hw order k address er history;
      next_of = λ k address er ew history. cond (hits_at hw order (line_place k) history er address) history (accessed k address ew history);
      part = part_at hw order;
    }

-- two histories agree below a label, and no longer do after the same access
pub record BreaksAgreement (v : Env (List Touch)) (lat : Lattice) : Type 0 where
  pub kind : Kind
  pub address : ℕ
  pub er : ℕ
  pub ew : ℕ
  pub label : ℕ
  pub one : List Touch
  pub other : List Touch
  pub agree : AgreeBelow v lat label one other
  pub differ : AgreeBelow v lat label (v.next_of kind address er ew one) (v.next_of kind address er ew other) → ⊥

-- it breaks the law of agreement, wherever it has a code cache and there are two labels
abbrev pub FillsOnAMissBreak : Type 0
FillsOnAMissBreak = (hw : Hardware) → HasBanks hw → hw.sharing ≡ Partitioned → (b : Bank) → hw.code_cache ≡ Some b
    → (order : Order) → IsLattice (lattice_of order) → (high : ℕ) → high < order.size → (high ≡ order.bottom → ⊥)
    → BreaksAgreement (fills_on_a_miss hw order) (lattice_of order)
