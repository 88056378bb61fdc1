-- The banks of a machine with what they hold, as contracts see them.
use Rattle.std.specs.Prelude.{◌≡◌, ℕ, ◌/◌, Bool, false, cond, List, [], Option, Some, None}
use Rattle.std.specs.Option.{option_map, option_map_or}
use Rattle.label_lattice.specs.Order.{Order}
use Rattle.part_cache.specs.Rows.{IsCacheOf, found, touched_by, part_of, empty_cache}
use Rattle.part_tlb.specs.declared.bank.Bank.{Bank}
use Rattle.part_tlb.specs.declared.bank.Sharing.{Sharing}
use Rattle.part_tlb.specs.Machine.{home_by}
use Rattle.hardware.specs.declared.seat.Seat.{Seat}
use Rattle.hardware.specs.Limits.{IsBank}

-- the bank is this one, of this sharing, and the cache is one of the lattice with its sizes
pub record IsSeatOf (sharing : Sharing) (order : Order) (bank : Bank) (s : Seat) : Type 0 where
  pub same : s.bank ≡ bank
  pub shared : s.sharing ≡ sharing
  pub good : IsBank bank
  pub cache : IsCacheOf order bank.sets bank.ways s.cache

abbrev pub empty_seat : Sharing → Order → Bank → Seat
empty_seat sharing order bank = record { bank = bank; sharing = sharing; cache = empty_cache order bank.sets bank.ways }

-- the partition that serves a label
abbrev pub seat_home : Seat → ℕ → ℕ
seat_home s label = home_by s.sharing s.cache.order label

abbrev pub seat_touched : Seat → ℕ → ℕ → Seat
seat_touched s address ew = record s { cache = touched_by s.bank.replacement s.cache (address / s.bank.bytes) (seat_home s ew) }

abbrev pub option_found : Option Seat → ℕ → ℕ → Bool
option_found o address er = option_map_or (λ (s : Seat). found s.cache (address / s.bank.bytes) (seat_home s er)) o false

abbrev pub option_cost : Option Seat → ℕ → ℕ → ℕ
option_cost o address er = option_map_or (λ (s : Seat). cond (found s.cache (address / s.bank.bytes) (seat_home s er)) s.bank.hit s.bank.miss) o 0

abbrev pub option_touched : Option Seat → ℕ → ℕ → Option Seat
option_touched o address ew = option_map (λ s. seat_touched s address ew) o

abbrev pub option_part : ℕ → Option Seat → List ℕ
option_part label o = option_map_or (λ (s : Seat). part_of label s.cache) o []

abbrev pub empty_option : Sharing → Order → Option Bank → Option Seat
empty_option sharing order bank = option_map (empty_seat sharing order) bank

-- where there is to be a bank there is one, made for the lattice, and else none
abbrev pub AreOfOne : Sharing → Order → Option Bank → Option Seat → Type 0
AreOfOne sharing order None None = Unit {0}
AreOfOne sharing order None (Some s) = ⊥
AreOfOne sharing order (Some b) None = ⊥
AreOfOne sharing order (Some b) (Some s) = IsSeatOf sharing order b s

-- there is no bank, or one, made for the lattice
pub record IsSomeSeat (order : Order) (s : Option Seat) : Type 0 where
  pub sharing : Sharing
  pub bank : Option Bank
  pub is : AreOfOne sharing order bank s
