-- The limits of a machine.
use Rattle.std.specs.Prelude.{ℕ, ◌+◌, ◌<◌, ◌≤◌, max, IfSome, Option, List}
use Rattle.std.specs.Option.{option_map_or}
use Rattle.label_lattice.specs.Order.{Order}
use Rattle.env_contract.specs.declared.place.Kind.{Kind}
use Rattle.env_contract.specs.declared.place.Place.{Place}
use Rattle.env_contract.specs.declared.place.Place.TheVariants.{Page, Second}
use Rattle.env_contract.specs.declared.place.Touch.{Touch}
use Rattle.part_tlb.specs.Machine.{line_place}
use Rattle.part_tlb.specs.declared.bank.Bank.{Bank}
use Rattle.part_tlb.specs.declared.bank.Hardware.{Hardware}
use Rattle.part_tlb.specs.Machine.{bank_at, access_cost}

-- a bank has a set, a way, and a byte for each tag
pub record IsBank (b : Bank) : Type 0 where
  pub some_set : 0 < b.sets
  pub some_way : 0 < b.ways
  pub some_byte : 0 < b.bytes

-- each bank of the machine is one
pub record HasBanks (hw : Hardware) : Type 0 where
  pub each : (p : Place) → IfSome (bank_at hw p) IsBank

-- the most that a look-up at a place costs
abbrev pub most_at : Hardware → Place → ℕ
most_at hw p = option_map_or (λ (b : Bank). max b.hit b.miss) (bank_at hw p) 0

-- the most that an access costs
abbrev pub most_cost : Hardware → Kind → ℕ
most_cost hw k = most_at hw Page + most_at hw (line_place k) + most_at hw Second

-- the most cycles that an access may cost beyond its instruction
abbrev pub IsCheap : Hardware → Type 0
IsCheap hw = (k : Kind) → most_cost hw k ≤ 1000

-- no access costs more than the most
abbrev pub CostsAtMost : Hardware → Type 0
CostsAtMost hw = (order : Order) (k : Kind) (a er : ℕ) (h : List Touch) → access_cost hw order k a er h ≤ most_cost hw k

-- the limits of what is made in memory
pub record IsSmall (b : Bank) : Type 0 where
  pub few_sets : b.sets ≤ 4096
  pub few_ways : b.ways ≤ 8

-- each bank of the machine keeps them
pub record AreSmall (hw : Hardware) : Type 0 where
  pub each : (p : Place) → IfSome (bank_at hw p) IsSmall

-- the most that a look-up costs: nothing where there is no bank
abbrev pub dearest : Option Bank → ℕ
dearest o = option_map_or (λ (b : Bank). max b.hit b.miss) o 0

-- a bank, within the limits
pub record IsGoodBank (b : Bank) : Type 0 where
  pub bank : IsBank b
  pub small : IsSmall b

-- each bank of the machine is one
pub record HasGoodBanks (hw : Hardware) : Type 0 where
  pub buffer : IfSome hw.buffer IsGoodBank
  pub code : IfSome hw.code_cache IsGoodBank
  pub line : IfSome hw.data_cache IsGoodBank
  pub second : IfSome hw.second IsGoodBank

-- a machine, within the limits
pub record IsWithin (hw : Hardware) : Type 0 where
  pub banks : HasBanks hw
  pub small : AreSmall hw
  pub cheap : IsCheap hw
