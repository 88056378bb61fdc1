-- The starts that a file gives for a program, or the first refusal.
use Rattle.std.specs.Prelude.{◌≡◌, ℕ, ◌+◌, ◌<◌, ℤ, ◌||◌, ◌&&◌, ◌==◌, if◌then◌else◌, nat_lt, Bool, List, [], ◌∷◌, All, length, Option, None, Some, Result, Ok}
use Rattle.std.specs.Prelude.{Err, codes, IsUtf8}
use Rattle.std.specs.Str.{bytes_eq}
use Rattle.toml.specs.Data.{Data, Items, no_items, item, Members, get_member, array, table}
use Rattle.toml.specs.Parse.{parse_document}
use Rattle.env_contract.specs.declared.place.Touch.{Touch}
use Rattle.mit_syntax.specs.Declarations.{variables}
use Rattle.mit_syntax.specs.Program.{Syntax}
use Rattle.start_file.specs.declared.fault.StartFault.{StartFault}
use Rattle.start_file.specs.declared.fault.StartFault.TheVariants.{NotToml, Version as BadVersion, UnknownKey, NoRuns, TooMany, NotNumber, BadTouch}
use Rattle.start_file.specs.declared.start.Start.{Start}
use Rattle.start_file.specs.declared.version.Version.{Version}
use Rattle.start_file.specs.Tables.{keys_pass, count_items, members_in}
use Rattle.start_file.specs.Versions.{version_of}
use Rattle.start_file.specs.Values.{names_pass, memory_passes, memory_of}
use Rattle.start_file.specs.Touches.{touches_in}

-- a start: a value for each variable, and the touches in order
pub record StartValue : Type 0 where
  pub memory : List ℤ
  pub touches : List Touch

-- what a `Start` is
abbrev pub seen : Start → StartValue
seen s = record { memory = s.memory.items; touches = s.touches.items }

abbrev pub is_run_key : List ℕ → Bool
is_run_key w = bytes_eq w (codes "memory") || bytes_eq w (codes "touch")

abbrev pub is_top_key : List ℕ → Bool
is_top_key w = bytes_eq w (codes "run") || bytes_eq w (codes "version")

-- all keys of a run are known
abbrev pub run_keys_pass : Syntax → Version → Members → Bool
run_keys_pass p v ms = keys_pass is_run_key ms && names_pass v p.declarations (get_member (codes "memory") ms)

abbrev pub with_touches : ℕ → List ℤ → Option (List Touch) → Result StartValue StartFault
with_touches n m None = Err (BadTouch n)
with_touches n m (Some ts) = Ok (record { memory = m; touches = ts })

-- the run with a number: first the keys are checked, then the values, then the touches
abbrev pub run_in : Syntax → Version → ℕ → Members → Result StartValue StartFault
run_in p v n ms =
    let memory = get_member (codes "memory") ms in
    if run_keys_pass p v ms
    then (if memory_passes p.declarations memory
    then with_touches n (memory_of p.declarations (members_in memory)) (touches_in v p.order (get_member (codes "touch") ms))
    else Err (NotNumber n))
    else Err (UnknownKey n)

abbrev pub run_of : Syntax → Version → ℕ → Data → Result StartValue StartFault
run_of p v n (table ms) = run_in p v n ms
run_of p v n _ = Err (UnknownKey n)

abbrev pub with_first : Result StartValue StartFault → Result (List StartValue) StartFault → Result (List StartValue) StartFault
with_first (Err e) rest = Err e
with_first (Ok s) (Err e) = Err e
with_first (Ok s) (Ok ss) = Ok (s ∷ ss)

-- the runs, numbered from n on: all starts, or the refusal of the first run that is refused
abbrev pub runs_from : Syntax → Version → ℕ → Items → Result (List StartValue) StartFault
runs_from p v n no_items = Ok []
runs_from p v n (item d ds) = with_first (run_of p v n d) (runs_from p v (n + 1) ds)

-- 1 to 4,096 runs
abbrev pub counted_runs : Syntax → Version → Items → Result (List StartValue) StartFault
counted_runs p v ds =
    if count_items ds == 0 then Err NoRuns
    else if nat_lt 4096 (count_items ds) then Err (TooMany (count_items ds))
    else runs_from p v 1 ds

-- the array `run`
abbrev pub runs_of : Syntax → Version → Option Data → Result (List StartValue) StartFault
runs_of p v (Some (array ds)) = counted_runs p v ds
runs_of p v _ = Err NoRuns

-- a document of this version, where the version is one
abbrev pub versioned : Syntax → Option Version → Members → Result (List StartValue) StartFault
versioned p None ms = Err BadVersion
versioned p (Some v) ms = if keys_pass is_top_key ms then runs_of p v (get_member (codes "run") ms) else Err (UnknownKey 0)

-- a document
abbrev pub starts_in : Syntax → Option Members → Result (List StartValue) StartFault
starts_in p None = Err NotToml
starts_in p (Some ms) = versioned p (version_of (get_member (codes "version") ms)) ms

-- the document that bytes write, or none
abbrev pub IsDocument : List ℕ → Option Members → Type 0
IsDocument bytes None = IsUtf8 bytes → parse_document bytes ≡ None
IsDocument bytes (Some ms) = IsUtf8 bytes × (parse_document bytes ≡ Some ms)

-- what the bytes of a file give: all starts, or the first refusal
abbrev pub Gives : Syntax → List ℕ → Result (List StartValue) StartFault → Type 0
Gives p bytes r = (d : Option Members) × IsDocument bytes d × (r ≡ starts_in p d)

-- a value for each variable, and touches of labels of the program
pub record IsFor (p : Syntax) (s : StartValue) : Type 0 where
  pub memory : length s.memory ≡ variables p.declarations
  pub touches : All (λ (t : Touch). t.label.number < p.order.size) s.touches
