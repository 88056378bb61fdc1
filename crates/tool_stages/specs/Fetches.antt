-- Which files a stage or a call fetches, and how that ends.
use Rattle.std.specs.Prelude.{◌≡◌, ◌⊎◌, ℕ, Bool, true, false, List, [], ◌∷◌, Option, Some, None, Result, Ok, Err}
use Rattle.tim_base.specs.Told.{IsTooLong}
use Rattle.tim_base.specs.Logs.{Fetched, Grows}
use Rattle.tim_base.specs.declared.shelf.FetchFault.{FetchFault}
use Rattle.tim_base.specs.declared.shelf.FetchFault.TheVariants.{Failed, TooLong, Memory}
use Rattle.tool_texts.specs.declared.status.Status.{Status}
use Rattle.tool_texts.specs.declared.status.Status.TheVariants as status
use Rattle.tool_texts.specs.declared.stop.Stop.{Stop}
use Rattle.tool_texts.specs.Ends.{status_of}
use Rattle.tool_texts.specs.Texts.{File, read_fault_line, too_long_line}

-- each of these files was fetched once, in order, and gave bytes
abbrev pub AreGiven : List (List ℕ) → List Fetched → Type 0
AreGiven [] log = log ≡ []
AreGiven (name ∷ names) log =
    (bytes : List ℕ) × (more : List Fetched) × (log ≡ record { name = name; gave = Ok bytes } ∷ more) × AreGiven names more

-- the fetch failed
abbrev pub is_failure : FetchFault → Bool
is_failure Failed = true
is_failure TooLong = false
is_failure Memory = false

-- Some of these files were fetched, from the first one on, each once, and nothing after one that gave no bytes; `failed`
-- tells whether the last one failed.
abbrev pub AreBegun : List (List ℕ) → Bool → List Fetched → Type 0
AreBegun [] failed log = (log ≡ []) × (failed ≡ false)
AreBegun (name ∷ names) failed log =
    ((log ≡ []) × (failed ≡ false))
    ⊎ (((fault : FetchFault) × (log ≡ record { name = name; gave = Err fault } ∷ []) × (failed ≡ is_failure fault))
    ⊎ ((bytes : List ℕ) × (more : List Fetched) × (log ≡ record { name = name; gave = Ok bytes } ∷ more) × AreBegun names failed more))

-- the status is that of a file that was not read
abbrev pub is_read_fault : Status → Bool
is_read_fault status.ReadFault = true
is_read_fault _ = false

-- What a stage has fetched: where it gives a value all of these files, and where it stops some of them; a stop is a read
-- fault exactly where the last fetch failed.
abbrev pub Fetches : {A : Type 0} → List (List ℕ) → Option (List Fetched) → Option (List Fetched) → Result A Stop → Type 0
Fetches names old new (Ok x) = (log : List Fetched) × Grows old new log × AreGiven names log
Fetches names old new (Err e) = (log : List Fetched) × Grows old new log × AreBegun names (is_read_fault (status_of e)) log

-- Some of these files were fetched, from the first one on, each once, and nothing after one that gave no bytes. A read
-- fault is told exactly where the last fetch failed, unless the line for it could not be written.
pub record HasFetched (names : List (List ℕ)) (s : Status) (old new : Option (List Fetched)) : Type 0 where
  pub log : List Fetched
  pub failed : Bool
  pub grows : Grows old new log
  pub begun : AreBegun names failed log
  pub fault : s ≡ status.ReadFault → failed ≡ true
  pub told : failed ≡ true → (s ≡ status.ReadFault) ⊎ (s ≡ status.WriteFault)

-- why a file gives no bytes
abbrev pub FileStops : Type 0 → Option (Option (List ℕ)) → File → Status → List ℕ → Type 0
FileStops Rose content file status.ReadFault t = Rose × (t ≡ read_fault_line file)
FileStops Rose content file status.TooLong t = IsTooLong content × (t ≡ too_long_line file)
FileStops Rose content file _ t = ⊥

-- the file, where one is named
abbrev pub named : Option (List ℕ) → List (List ℕ)
named None = []
named (Some file) = file ∷ []

-- the files that words name: those that what they ask for names
abbrev pub named_by : {Asked : Type 0} → (Asked → List (List ℕ)) → Option Asked → List (List ℕ)
named_by files_of None = []
named_by files_of (Some a) = files_of a
