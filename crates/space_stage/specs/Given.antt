-- What a start file gives: a list of starts, or a space of them.
use Rattle.std.specs.Prelude.{◌≡◌, ◌≢◌, ◌⊎◌, ◌≤◌, ℕ, List, All, length, map, Option, Result, Ok, Err}
use Rattle.std.proofs.Common.{inl, inr}
use Rattle.tim_base.specs.Told.{limit, IsTold, IsTooLong}
use Rattle.mit_syntax.specs.Program.{Syntax}
use Rattle.start_file.specs.declared.fault.StartFault.TheVariants as start
use Rattle.start_file.specs.declared.fault.StartFault.{StartFault}
use Rattle.start_file.specs.Starts.{StartValue, IsFor, seen}
use Rattle.start_file.specs.Shared.{GivesList}
use Rattle.space_file.specs.declared.fault.SpaceFault.{SpaceFault}
use Rattle.space_file.specs.declared.fault.SpaceFault.TheVariants as space
use Rattle.space_file.specs.Files.{GivesSpace}
use Rattle.space_starts.specs.Space.{SpaceValue, IsSpaceFor, seen as seen_space}
use Rattle.tool_texts.specs.declared.status.Status.{Status}
use Rattle.tool_texts.specs.declared.status.Status.TheVariants as status
use Rattle.tool_texts.specs.Texts.{starts, start_fault_line, read_fault_line, too_long_line}
use Rattle.space_stage.specs.declared.given.StartSet.{StartSet}
use Rattle.space_stage.specs.declared.given.StartSet.TheVariants.{List as Listed, Space}
use Rattle.space_stage.specs.Lines.{space_fault_line}

-- the list of starts that a file of any version gives
abbrev pub ListIs : Option (Option (List ℕ)) → Syntax → List StartValue → Type 0
ListIs content p ss = (bytes : List ℕ) × IsTold content bytes × (length bytes ≤ limit) × GivesList p bytes (Ok ss)

-- the file is refused as a list of starts, and not for its version
pub record HasListFault (content : Option (Option (List ℕ))) (p : Syntax) (t : List ℕ) : Type 0 where
  pub bytes : List ℕ
  pub are : IsTold content bytes
  pub short : length bytes ≤ limit
  pub fault : StartFault
  pub none : fault ≢ start.Memory
  pub version : fault ≢ start.Version
  pub is : GivesList p bytes (Err fault)
  pub line : t ≡ start_fault_line fault

-- A file whose version is none of a list of starts is read as one of a space.
pub record IsReadAs (content : Option (Option (List ℕ))) (p : Syntax) (r : Result SpaceValue SpaceFault) : Type 0 where
  pub bytes : List ℕ
  pub are : IsTold content bytes
  pub short : length bytes ≤ limit
  pub version : GivesList p bytes (Err start.Version)
  pub gives : GivesSpace p bytes r

-- the space that a file gives
abbrev pub SpaceIs : Option (Option (List ℕ)) → Syntax → SpaceValue → Type 0
SpaceIs content p s = IsReadAs content p (Ok s)

-- the file is refused as a space
abbrev pub HasSpaceFault : Option (Option (List ℕ)) → Syntax → List ℕ → Type 0
HasSpaceFault content p t = (f : SpaceFault) × (f ≢ space.Memory) × IsReadAs content p (Err f) × (t ≡ space_fault_line f)

abbrev pub GivenStops : Type 0 → Option (Option (List ℕ)) → Syntax → Status → List ℕ → Type 0
GivenStops Rose content p status.ReadFault t = Rose × (t ≡ read_fault_line starts)
GivenStops Rose content p status.TooLong t = IsTooLong content × (t ≡ too_long_line starts)
GivenStops Rose content p status.Starts t = HasListFault content p t ⊎ HasSpaceFault content p t
GivenStops Rose content p _ t = ⊥

-- what is given: a list of starts, or a space
abbrev pub GivenValue : Type 0
GivenValue = List StartValue ⊎ SpaceValue

abbrev pub GivenIs : Option (Option (List ℕ)) → Syntax → GivenValue → Type 0
GivenIs content p (inl ss) = ListIs content p ss
GivenIs content p (inr s) = SpaceIs content p s

-- it is for a program
abbrev pub IsFitting : Syntax → GivenValue → Type 0
IsFitting p (inl ss) = All (IsFor p) ss
IsFitting p (inr s) = IsSpaceFor p s

-- what a `StartSet` is
abbrev pub value_of : StartSet → GivenValue
value_of (Listed ss) = inl (map seen ss.items)
value_of (Space s) = inr (seen_space s)
