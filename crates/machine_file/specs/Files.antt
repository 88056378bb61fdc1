-- The machine that a file describes, or the first refusal.
use Rattle.std.specs.Prelude.{◌≡◌, ℕ, ◌+◌, ltb, leb, max, ◌&&◌, ◌||◌, if◌then◌else◌, Bool, false, List, Option, None, Some, Result, Ok, Err, codes, pos}
use Rattle.std.specs.Ordering.{int_eq}
use Rattle.std.specs.Option.{option_or}
use Rattle.std.specs.Str.{bytes_eq}
use Rattle.toml.specs.Data.{Data, Members, get_member, string, integer, table}
use Rattle.env_contract.specs.declared.place.Place.{Place}
use Rattle.env_contract.specs.declared.place.Place.TheVariants as place
use Rattle.start_file.specs.Tables.{keys_pass}
use Rattle.start_file.specs.Touches.{address_of}
use Rattle.start_file.specs.Starts.{IsDocument}
use Rattle.part_cache.specs.declared.replacement.Replacement.{Replacement}
use Rattle.part_cache.specs.declared.replacement.Replacement.TheVariants.{LeastRecent, FirstCome}
use Rattle.part_tlb.specs.declared.bank.Bank.{Bank}
use Rattle.part_tlb.specs.declared.bank.Hardware.{Hardware}
use Rattle.hardware.specs.Limits.{dearest}
use Rattle.part_tlb.specs.declared.bank.Sharing.{Sharing}
use Rattle.part_tlb.specs.declared.bank.Sharing.TheVariants.{Partitioned, Shared}
use Rattle.machine_file.specs.declared.fault.MachineFault.{MachineFault}
use Rattle.machine_file.specs.declared.fault.MachineFault.TheVariants.{NotToml, Version, UnknownKey, Sharing as BadSharing, BadBank}
use Rattle.machine_file.specs.declared.fault.MachineFault.TheVariants.{Replacement as BadReplacement, Sets, Ways, Bytes, Costs}

abbrev pub is_bank_key : List ℕ → Bool
is_bank_key w =
    bytes_eq w (codes "sets") || bytes_eq w (codes "ways") || bytes_eq w (codes "bytes") || bytes_eq w (codes "hit") || bytes_eq w (codes "miss")
    || bytes_eq w (codes "replace")

abbrev pub is_machine_key : List ℕ → Bool
is_machine_key w =
    bytes_eq w (codes "version") || bytes_eq w (codes "sharing") || bytes_eq w (codes "page") || bytes_eq w (codes "code")
    || bytes_eq w (codes "data") || bytes_eq w (codes "second")

abbrev pub bank_from : Option ℕ → Option ℕ → Option ℕ → Option ℕ → Option ℕ → Option Bank
bank_from (Some s) (Some w) (Some y) (Some h) (Some m) = Some (record { sets = s; ways = w; bytes = y; hit = h; miss = m; replacement = LeastRecent })
bank_from _ _ _ _ _ = None

-- a table of the five numbers, each an integer from 0 to 4294967295, and at most the key of the rule beside them
abbrev pub bank_in : Members → Option Bank
bank_in ms =
    if keys_pass is_bank_key ms
    then bank_from (address_of (get_member (codes "sets") ms)) (address_of (get_member (codes "ways") ms)) (address_of (get_member (codes "bytes") ms))
    (address_of (get_member (codes "hit") ms)) (address_of (get_member (codes "miss") ms))
    else None

abbrev pub replacement_named : List ℕ → Option Replacement
replacement_named w = if bytes_eq w (codes "lru") then Some LeastRecent else if bytes_eq w (codes "fifo") then Some FirstCome else None

-- the least recently used goes first where no rule is named
abbrev pub replacement_of : Option Data → Option Replacement
replacement_of None = Some LeastRecent
replacement_of (Some (string w)) = replacement_named w
replacement_of (Some _) = None

-- a bank of these numbers with the rule
abbrev pub as_bank : Place → Option Bank → Option Replacement → Result (Option Bank) MachineFault
as_bank p None r = Err (BadBank p)
as_bank p (Some b) None = Err (BadReplacement p)
as_bank p (Some b) (Some r) = Ok (Some (record b { replacement = r }))

-- no bank where nothing stands
abbrev pub bank_of : Place → Option Data → Result (Option Bank) MachineFault
bank_of p None = Ok None
bank_of p (Some (table ms)) = as_bank p (bank_in ms) (replacement_of (get_member (codes "replace") ms))
bank_of p (Some _) = Err (BadBank p)

abbrev pub sharing_named : List ℕ → Option Sharing
sharing_named w = if bytes_eq w (codes "partitioned") then Some Partitioned else if bytes_eq w (codes "shared") then Some Shared else None

abbrev pub sharing_of : Option Data → Option Sharing
sharing_of (Some (string w)) = sharing_named w
sharing_of _ = None

-- the version is 1, and has to be stated
abbrev pub is_first : Option Data → Bool
is_first (Some (integer z)) = int_eq z (pos 1)
is_first _ = false

abbrev pub with_banks : Sharing → Result (Option Bank) MachineFault → Result (Option Bank) MachineFault → Result (Option Bank) MachineFault
    → Result (Option Bank) MachineFault → Result Hardware MachineFault
with_banks s (Err e) code line second = Err e
with_banks s (Ok page) (Err e) line second = Err e
with_banks s (Ok page) (Ok code) (Err e) second = Err e
with_banks s (Ok page) (Ok code) (Ok line) (Err e) = Err e
with_banks s (Ok page) (Ok code) (Ok line) (Ok second) =
    Ok (record { buffer = page; code_cache = code; data_cache = line; second = second; sharing = s })

abbrev pub with_sharing : Option Sharing → Members → Result Hardware MachineFault
with_sharing None ms = Err BadSharing
with_sharing (Some s) ms =
    with_banks s (bank_of place.Page (get_member (codes "page") ms)) (bank_of place.Code (get_member (codes "code") ms))
    (bank_of place.Data (get_member (codes "data") ms)) (bank_of place.Second (get_member (codes "second") ms))

-- first the version, then the keys, the rule of sharing, and the banks
abbrev pub machine_in : Members → Result Hardware MachineFault
machine_in ms =
    if is_first (get_member (codes "version") ms)
    then (if keys_pass is_machine_key ms then with_sharing (sharing_of (get_member (codes "sharing") ms)) ms else Err UnknownKey)
    else Err Version

-- ---- limits

-- 1 to 4,096 sets of 1 to 8 ways, and at least a byte for a tag
abbrev pub bank_fault : Place → Option Bank → Option MachineFault
bank_fault p None = None
bank_fault p (Some b) =
    if ltb 0 b.sets && leb b.sets 4096
    then (if ltb 0 b.ways && leb b.ways 8 then (if ltb 0 b.bytes then None else Some (Bytes p)) else Some (Ways p))
    else Some (Sets p)

-- the most that an access costs: the dearest look-ups of its page, of its line in the first level, and in the second
abbrev pub most_of_all : Hardware → ℕ
most_of_all hw = dearest hw.buffer + max (dearest hw.code_cache) (dearest hw.data_cache) + dearest hw.second

abbrev pub cost_fault : Hardware → Option MachineFault
cost_fault hw = if leb (most_of_all hw) 1000 then None else Some (Costs (most_of_all hw))

-- the first limit that is broken, place by place, and the costs last
abbrev pub limit_fault : Hardware → Option MachineFault
limit_fault hw =
    option_or (bank_fault place.Page hw.buffer) (option_or (bank_fault place.Code hw.code_cache) (option_or (bank_fault place.Data hw.data_cache)
    (option_or (bank_fault place.Second hw.second) (cost_fault hw))))

-- the bytes are a document that describes the machine, which is within the limits
abbrev pub Describes : List ℕ → Hardware → Type 0
Describes bytes hw = (ms : Members) × (IsDocument bytes (Some ms) × (machine_in ms ≡ Ok hw) × (limit_fault hw ≡ None))

-- Why the bytes are refused: they are no document, or one that describes no machine, or one out of the limits.
pub data Refused (bytes : List ℕ) : MachineFault → Type 0 where
  no_document : IsDocument bytes None → Refused bytes NotToml
  no_machine : (ms : Members) (e : MachineFault) → IsDocument bytes (Some ms) → machine_in ms ≡ Err e → Refused bytes e
  too_great : (ms : Members) (hw : Hardware) (e : MachineFault) → IsDocument bytes (Some ms) → machine_in ms ≡ Ok hw → limit_fault hw ≡ Some e
      → Refused bytes e
