-- A machine's environment as contracts see it, and the history that it stands for.
use Rattle.std.specs.Prelude.{ℕ, ◌+◌, cond, List, [], ◌∷◌, Option, Some, None}
use Rattle.label_lattice.specs.Order.{Order}
use Rattle.env_contract.specs.declared.place.Kind.{Kind}
use Rattle.env_contract.specs.declared.place.Kind.TheVariants as kind
use Rattle.env_contract.specs.declared.place.Place.{Place}
use Rattle.env_contract.specs.declared.place.Place.TheVariants.{Page, Code, Data, Second}
use Rattle.env_contract.specs.declared.place.Touch.{Touch}
use Rattle.env_contract.specs.Env.{Env}
use Rattle.part_cache.specs.Rows.{StandsBy}
use Rattle.part_tlb.specs.Machine.{line_place}
use Rattle.part_tlb.specs.declared.bank.Bank.{Bank}
use Rattle.part_tlb.specs.declared.bank.Hardware.{Hardware}
use Rattle.hardware.specs.declared.seat.Seat.{Seat}
use Rattle.hardware.specs.declared.machine.HardwareEnv.{HardwareEnv}
use Rattle.part_tlb.specs.Machine.{bank_at, touches_in}
use Rattle.hardware.specs.Limits.{IsCheap}
use Rattle.hardware.specs.Seats.{AreOfOne, option_found, option_cost, option_touched, option_part, empty_option}

abbrev pub seat_at : HardwareEnv → Place → Option Seat
seat_at e Page = e.buffer
seat_at e Code = e.code_cache
seat_at e Data = e.data_cache
seat_at e Second = e.second

-- a touch of an address in the bank at a place
abbrev pub machine_touched : Place → ℕ → ℕ → HardwareEnv → HardwareEnv
machine_touched Page a ew e = record e { buffer = option_touched e.buffer a ew }
machine_touched Code a ew e = record e { code_cache = option_touched e.code_cache a ew }
machine_touched Data a ew e = record e { data_cache = option_touched e.data_cache a ew }
machine_touched Second a ew e = record e { second = option_touched e.second a ew }

-- the first-level cache of an access
abbrev pub line_seat : Kind → HardwareEnv → Option Seat
line_seat kind.Code e = e.code_cache
line_seat kind.Data e = e.data_cache

abbrev pub machine_cost : Kind → ℕ → ℕ → ℕ → HardwareEnv → ℕ
machine_cost k a er ew e =
    option_cost e.buffer a er + option_cost (line_seat k e) a er + cond (option_found (line_seat k e) a er) 0 (option_cost e.second a er)

abbrev pub machine_after : Kind → ℕ → ℕ → ℕ → HardwareEnv → HardwareEnv
machine_after k a er ew e = machine_touched Second a ew (machine_touched (line_place k) a ew (machine_touched Page a ew e))

abbrev pub machine_env : Env HardwareEnv
machine_env = record { cost_of = machine_cost; next_of = machine_after; part = λ p label e. option_part label (seat_at e p) }

-- the environment is one of the machine, made for the lattice
pub record IsMadeOf (hw : Hardware) (order : Order) (e : HardwareEnv) : Type 0 where
  pub seats : (p : Place) → AreOfOne hw.sharing order (bank_at hw p) (seat_at e p)
  pub cheap : IsCheap hw

-- it is one of some machine
pub record IsOfSome (order : Order) (e : HardwareEnv) : Type 0 where
  pub hardware : Hardware
  pub made : IsMadeOf hardware order e

-- the machine with nothing in its banks, and with what touches leave there, the earliest first
abbrev pub empty_machine : Hardware → Order → HardwareEnv
empty_machine hw order =
    record {
      buffer = empty_option hw.sharing order hw.buffer;
      code_cache = empty_option hw.sharing order hw.code_cache;
      data_cache = empty_option hw.sharing order hw.data_cache;
      second = empty_option hw.sharing order hw.second;
    }

abbrev pub machine_warmed : HardwareEnv → List Touch → HardwareEnv
machine_warmed e [] = e
machine_warmed e (t ∷ touches) = machine_warmed (machine_touched t.place t.address t.label.number e) touches

-- a bank stands for the touches of its place
module _ (hw : Hardware) (order : Order) where
  abbrev pub Stand : Place → List Touch → Option Bank → Option Seat → Type 0
  Stand p h None None = Unit {0}
  Stand p h None (Some s) = ⊥
  Stand p h (Some b) None = ⊥
  Stand p h (Some b) (Some s) = StandsBy b.replacement s.cache (touches_in hw order b p h)

  -- each bank does
  pub record Keeps (e : HardwareEnv) (h : List Touch) : Type 0 where
    pub made : IsMadeOf hw order e
    pub stands : (p : Place) → Stand p h (bank_at hw p) (seat_at e p)
