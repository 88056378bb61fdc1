-- The sink and the shelf that record, as contracts see them.
use Rattle.std.specs.Prelude.{◌≡◌, ℕ, Bool, true, false, List, [], flat_map, length, Option, Some, None, Result, Ok, Err, IfOk}
use Rattle.tim_base.specs.Told.{IsTold}
use Rattle.tim_base.specs.Logs.{Offered, Fetched}
use Rattle.tim_base.specs.declared.sink.recorded.Offer.{Offer}
use Rattle.tim_base.specs.declared.shelf.recorded.Fetch.{Fetch}

-- a log that is told where nothing is left out of it
abbrev pub told_if : {A : Type 0} → Bool → List A → Option (List A)
told_if true log = Some log
told_if false log = None

-- ---- the sink

-- how many bytes a write took: all of them, or it failed
abbrev pub took_by : Bool → List ℕ → Option ℕ
took_by true bytes = Some (length bytes)
took_by false bytes = None

-- a write that took all bytes, or that failed
abbrev pub tried : List ℕ → Bool → Offered
tried bytes taken = record { bytes = bytes; took = took_by taken bytes }

abbrev pub offer_of : Offer → Offered
offer_of o = tried o.bytes.items o.taken

-- the bytes that a write took, where it took all or failed
abbrev pub taken_of : Offered → List ℕ
taken_of o = those_of o.took o.bytes
  where
    those_of : Option ℕ → List ℕ → List ℕ
    those_of None bytes = []
    those_of (Some n) bytes = bytes

-- the bytes that all these writes took
abbrev pub taken_by : List Offered → List ℕ
taken_by log = flat_map taken_of log

-- the writes so far, how many of them are taken, whether none is left out, and the count of faults
pub record SinkRecord : Type 0 where
  pub writes : List Offered
  pub most : ℕ
  pub whole : Bool
  pub faults : ℕ

-- a write took all that it was offered, or failed
abbrev pub TakesAll : Offered → Type 0
TakesAll o = (taken : Bool) × (o.took ≡ took_by taken o.bytes)

-- ---- the shelf

abbrev pub gave_of : {T E : Type 0} → (T → List ℕ) → Result T E → Result (List ℕ) E
gave_of bytes (Ok x) = Ok (bytes x)
gave_of bytes (Err e) = Err e

abbrev pub fetch_of : Fetch → Fetched
fetch_of f = record { name = f.name.items; gave = gave_of (λ v. v.items) f.gave }

-- the shelf that is asked, the fetches so far, and whether none is left out
pub record ShelfRecord (S : Type 0) : Type 0 where
  pub shelf : S
  pub fetches : List Fetched
  pub whole : Bool

-- a fetch that gave bytes gave what the name is told to hold
abbrev pub GaveTold : (List ℕ → Option (Option (List ℕ))) → Fetched → Type 0
GaveTold content f = IfOk f.gave (λ bytes. IsTold (content f.name) bytes)
