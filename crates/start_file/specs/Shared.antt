-- Lists of runs with memory that all runs share.
use Rattle.std.specs.Prelude.{◌≡◌, ℕ, ℤ, ◌||◌, ◌&&◌, if◌then◌else◌, Bool, true, List, Option, None, Some, Result, Err, codes, is_some}
use Rattle.std.specs.Str.{bytes_eq}
use Rattle.toml.specs.Data.{Data, Items, no_items, item, Members, no_members, member, get_member, array, table}
use Rattle.mit_syntax.specs.Program.{Syntax}
use Rattle.start_file.specs.declared.fault.StartFault.{StartFault}
use Rattle.start_file.specs.declared.fault.StartFault.TheVariants.{NotToml, UnknownKey, NotNumber}
use Rattle.start_file.specs.declared.version.Version.{Version}
use Rattle.start_file.specs.declared.version.Version.TheVariants.{Two}
use Rattle.start_file.specs.Tables.{keys_pass, members_in}
use Rattle.start_file.specs.Versions.{is_three}
use Rattle.start_file.specs.Values.{slot_of, is_key, names_pass, values_pass, memory_passes, memory_of}
use Rattle.start_file.specs.Starts.{StartValue, starts_in, runs_of, IsDocument}

-- a table, and what another one has at keys that it lacks
abbrev pub filled : Members → Members → Members
filled own no_members = own
filled own (member k d ms) = if is_some (get_member k own) then filled own ms else member k d (filled own ms)

-- a memory, filled with what is shared; what is no table stays
abbrev pub filled_memory : Members → Option Data → Data
filled_memory shared None = table shared
filled_memory shared (Some (table own)) = table (filled own shared)
filled_memory shared (Some d) = d

-- a run whose memory is filled; the rest of it stays
abbrev pub filled_members : Members → Members → Members
filled_members shared ms = filled (member (codes "memory") (filled_memory shared (get_member (codes "memory") ms)) no_members) ms

abbrev pub filled_run : Members → Data → Data
filled_run shared (table ms) = table (filled_members shared ms)
filled_run shared d = d

abbrev pub filled_items : Members → Items → Items
filled_items shared no_items = no_items
filled_items shared (item d ds) = item (filled_run shared d) (filled_items shared ds)

-- the array `run`, each of its runs filled
abbrev pub filled_runs : Members → Option Data → Option Data
filled_runs shared (Some (array ds)) = Some (array (filled_items shared ds))
filled_runs shared d = d

abbrev pub is_list_key : List ℕ → Bool
is_list_key w = bytes_eq w (codes "memory") || bytes_eq w (codes "run") || bytes_eq w (codes "version")

-- all keys of the top level and of the shared memory are known
abbrev pub list_keys_pass : Syntax → Members → Bool
list_keys_pass p ms = keys_pass is_list_key ms && names_pass Two p.declarations (get_member (codes "memory") ms)

-- A file of version 3 with runs. First the keys are checked, then the values that are shared; these faults are of run 0. The starts
-- are then those of version 2 for runs into which each shared value is written that they lack.
abbrev pub shared_in : Syntax → Members → Result (List StartValue) StartFault
shared_in p ms =
    let shared = get_member (codes "memory") ms in
    if list_keys_pass p ms
    then (if memory_passes p.declarations shared
    then runs_of p Two (filled_runs (members_in shared) (get_member (codes "run") ms))
    else Err (NotNumber 0))
    else Err (UnknownKey 0)

-- version 3, and runs
abbrev pub has_shared : Members → Bool
has_shared ms = is_three (get_member (codes "version") ms) && is_some (get_member (codes "run") ms)

-- a document of a list of runs, of any version
abbrev pub list_in : Syntax → Option Members → Result (List StartValue) StartFault
list_in p None = Err NotToml
list_in p (Some ms) = if has_shared ms then shared_in p ms else starts_in p (Some ms)

-- what the bytes of a file give as a list of runs, of any version: all starts, or the first refusal
abbrev pub GivesList : Syntax → List ℕ → Result (List StartValue) StartFault → Type 0
GivesList p bytes r = (d : Option Members) × IsDocument bytes d × (r ≡ list_in p d)

-- values that runs share, of known names, and what the variables have by them
pub record IsShared (p : Syntax) (v : Version) (shared : Members) (values : List ℤ) : Type 0 where
  pub names : keys_pass (λ w. is_key v (slot_of p.declarations w)) shared ≡ true
  pub passes : values_pass p.declarations shared ≡ true
  pub are : values ≡ memory_of p.declarations shared
