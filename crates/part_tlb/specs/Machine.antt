-- What accesses cost on a machine, by the history of what was touched.
use Rattle.std.specs.Prelude.{ℕ, ◌+◌, ◌/◌, Bool, true, false, cond, List, [], ◌∷◌, ◌++◌, map, Option}
use Rattle.std.specs.List.{range_with_len}
use Rattle.std.specs.Option.{option_map_or}
use Rattle.label_lattice.specs.Order.{Order}
use Rattle.env_contract.specs.declared.place.Kind.{Kind}
use Rattle.env_contract.specs.declared.place.Kind.TheVariants as kind
use Rattle.env_contract.specs.declared.place.Place.{Place}
use Rattle.env_contract.specs.declared.place.Place.TheVariants.{Page, Code, Data, Second}
use Rattle.env_contract.specs.declared.place.Touch.{Touch}
use Rattle.env_contract.specs.Env.{Env}
use Rattle.part_cache.specs.History.{Touched, hits_by, held_by}
use Rattle.part_cache.specs.Rows.{numbers_of}
use Rattle.part_tlb.specs.declared.bank.Bank.{Bank}
use Rattle.part_tlb.specs.declared.bank.Hardware.{Hardware}
use Rattle.part_tlb.specs.declared.bank.Sharing.{Sharing}
use Rattle.part_tlb.specs.declared.bank.Sharing.TheVariants.{Partitioned, Shared}

abbrev pub is_place : Place → Place → Bool
is_place Page Page = true
is_place Code Code = true
is_place Data Data = true
is_place Second Second = true
is_place p q = false

-- the first-level cache of an access
abbrev pub line_place : Kind → Place
line_place kind.Code = Code
line_place kind.Data = Data

-- the bank at a place, if there is one
abbrev pub bank_at : Hardware → Place → Option Bank
bank_at hw Page = hw.buffer
bank_at hw Code = hw.code_cache
bank_at hw Data = hw.data_cache
bank_at hw Second = hw.second

-- the partition that serves a label: its own, or that of the lowest label for all
abbrev pub home_by : Sharing → Order → ℕ → ℕ
home_by Partitioned order l = l
home_by Shared order l = order.bottom

abbrev pub home : Hardware → Order → ℕ → ℕ
home hw order l = home_by hw.sharing order l

-- the history with the touch of an address at a place added. A history is a list of touches, the oldest first
abbrev pub touch_at : Place → ℕ → ℕ → List Touch → List Touch
touch_at p address ew history = history ++ record { place = p; label = record { number = ew }; address = address } ∷ []

-- An access touches its page, its line in the first level and its line in the second, whether they hit or not. The
-- history says what was touched, whatever the machine keeps of it.
abbrev pub accessed : Kind → ℕ → ℕ → List Touch → List Touch
accessed k address ew history = touch_at Second address ew (touch_at (line_place k) address ew (touch_at Page address ew history))

module _ (hw : Hardware) (order : Order) where
  -- the touches of one place as its bank sees them, in their order
  abbrev pub touches_in : Bank → Place → List Touch → List Touched
  touches_in b p [] = []
  touches_in b p (x ∷ xs) =
      cond (is_place p x.place) (record { label = home hw order x.label.number; tag = x.address / b.bytes } ∷ touches_in b p xs) (touches_in b p xs)

  -- a look-up of an address in a bank hits
  abbrev pub hits_in : Bank → Place → List Touch → ℕ → ℕ → Bool
  hits_in b p history er address = hits_by b.replacement order b.sets b.ways (touches_in b p history) (home hw order er) (address / b.bytes)

  -- a look-up at a place hits: never where there is no bank
  abbrev pub hits_at : Place → List Touch → ℕ → ℕ → Bool
  hits_at p history er address = option_map_or (λ b. hits_in b p history er address) (bank_at hw p) false

  -- what a look-up at a place costs: nothing where there is no bank
  abbrev pub cost_at : Place → List Touch → ℕ → ℕ → ℕ
  cost_at p history er address = option_map_or (λ (b : Bank). cond (hits_in b p history er address) b.hit b.miss) (bank_at hw p) 0

  -- An access pays for its page, for its line in the first level and, where that did not hit, for its line in the
  -- second level.
  abbrev pub access_cost : Kind → ℕ → ℕ → List Touch → ℕ
  access_cost k address er history =
      cost_at Page history er address + cost_at (line_place k) history er address
      + cond (hits_at (line_place k) history er address) 0 (cost_at Second history er address)

  -- the tags that a set of a label's partition of a bank holds, by its rule of replacement
  abbrev pub held_in : Bank → Place → List Touch → ℕ → ℕ → List ℕ
  held_in b p history label set = held_by b.replacement b.sets b.ways (touches_in b p history) label set

  -- what a label's partition of a bank holds, as one list of numbers
  abbrev pub bank_part : Bank → Place → ℕ → List Touch → List ℕ
  bank_part b p label history = numbers_of (map (held_in b p history label) (range_with_len 0 b.sets))

  -- what is held at a place for a label: nothing where there is no bank
  abbrev pub part_at : Place → ℕ → List Touch → List ℕ
  part_at p label history = option_map_or (λ (b : Bank). bank_part b p label history) (bank_at hw p) []

-- the environment of a machine in which nothing is kept but the history
abbrev pub hardware_by_history : Hardware → Order → Env (List Touch)
hardware_by_history hw order =
    record {
      cost_of = λ k address er ew history. access_cost hw order k address er history;
      next_of = λ k address er ew history. accessed k address ew history;
      part = part_at hw order;
    }
