-- The space that a file gives for a program, or the first refusal.
use Rattle.std.specs.Prelude.{◌≡◌, ℕ, ◌||◌, ◌&&◌, nat_le, ◌^◌, if◌then◌else◌, Bool, List, [], ◌∷◌, Option, None, Some, Result, Ok, Err, codes}
use Rattle.std.specs.List.{list_all}
use Rattle.std.specs.Str.{bytes_eq}
use Rattle.toml.specs.Data.{Data, Members, no_members, get_member, table}
use Rattle.env_contract.specs.declared.place.Touch.{Touch}
use Rattle.mit_syntax.specs.Program.{Syntax}
use Rattle.start_file.specs.declared.version.Version.TheVariants.{Two}
use Rattle.start_file.specs.Tables.{keys_pass}
use Rattle.start_file.specs.Versions.{is_three}
use Rattle.start_file.specs.Touches.{touches_in}
use Rattle.start_file.specs.Starts.{IsDocument}
use Rattle.space_file.specs.declared.fault.SpaceFault.{SpaceFault}
use Rattle.space_file.specs.declared.fault.SpaceFault.TheVariants.{NotToml, Version, UnknownKey, NoSpace, NotRange, ValueTwice, BadTouch, TooMany}
use Rattle.space_starts.specs.Space.{SpaceValue, size_of, apart}
use Rattle.space_file.specs.Ranges.{Values, names_pass, memory_of}

abbrev pub is_top_key : List ℕ → Bool
is_top_key w = bytes_eq w (codes "space") || bytes_eq w (codes "version")

abbrev pub is_space_key : List ℕ → Bool
is_space_key w = bytes_eq w (codes "memory") || bytes_eq w (codes "touch")

-- all keys of a space are known
abbrev pub space_keys_pass : Syntax → Members → Bool
space_keys_pass p ms = keys_pass is_space_key ms && names_pass p.declarations (get_member (codes "memory") ms)

-- the values, where `memory` is a table or left out
abbrev pub values_in : Syntax → Option Data → Option (List Values)
values_in p None = memory_of p.declarations no_members
values_in p (Some (table ms)) = memory_of p.declarations ms
values_in p (Some _) = None

-- at most 2^40 starts
abbrev pub counted : SpaceValue → Result SpaceValue SpaceFault
counted s = if nat_le (size_of s) (2 ^ 40) then Ok s else Err TooMany

-- values of which no variable has one twice, and touches
abbrev pub from_values : List Values → Option (List Touch) → Result SpaceValue SpaceFault
from_values m None = Err BadTouch
from_values m (Some ts) = counted (record { memory = m; touches = ts })

abbrev pub from_parts : Option (List Values) → Option (List Touch) → Result SpaceValue SpaceFault
from_parts None ts = Err NotRange
from_parts (Some m) ts = if list_all apart m then from_values m ts else Err ValueTwice

-- a space: first the keys are checked, then that the values are lists, then that none has a value twice, then the touches,
-- then the size
abbrev pub space_in : Syntax → Members → Result SpaceValue SpaceFault
space_in p ms =
    if space_keys_pass p ms
    then from_parts (values_in p (get_member (codes "memory") ms)) (touches_in Two p.order (get_member (codes "touch") ms))
    else Err UnknownKey

abbrev pub space_of : Syntax → Option Data → Result SpaceValue SpaceFault
space_of p (Some (table ms)) = space_in p ms
space_of p _ = Err NoSpace

-- a document
abbrev pub document_space : Syntax → Option Members → Result SpaceValue SpaceFault
document_space p None = Err NotToml
document_space p (Some ms) =
    if is_three (get_member (codes "version") ms)
    then (if keys_pass is_top_key ms then space_of p (get_member (codes "space") ms) else Err UnknownKey)
    else Err Version

-- what the bytes of a file give: a space, or the first refusal
abbrev pub GivesSpace : Syntax → List ℕ → Result SpaceValue SpaceFault → Type 0
GivesSpace p bytes r = (d : Option Members) × IsDocument bytes d × (r ≡ document_space p d)
