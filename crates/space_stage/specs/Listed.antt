-- The starts that a file gives, written out: those of a list, or all of a small space.
use Rattle.std.specs.Prelude.{◌≡◌, ◌≤◌, ◌<◌, ℕ, List, All, length, Option}
use Rattle.std.proofs.Common.{inl, inr}
use Rattle.mit_syntax.specs.Program.{Syntax}
use Rattle.start_file.specs.Starts.{StartValue, IsFor}
use Rattle.space_starts.specs.Space.{size_of, all_starts}
use Rattle.tool_texts.specs.declared.status.Status.{Status}
use Rattle.tool_texts.specs.declared.status.Status.TheVariants as status
use Rattle.tool_stages.specs.Stages.{Then}
use Rattle.space_stage.specs.Given.{GivenValue, GivenIs, GivenStops}
use Rattle.space_stage.specs.Lines.{many_starts_line}

-- the starts of what is given: of a list, or of a space of at most 4096, in the order of their numbers
abbrev pub WritesOut : GivenValue → List StartValue → Type 0
WritesOut (inl rs) ss = ss ≡ rs
WritesOut (inr s) ss = (size_of s ≤ 4096) × (ss ≡ all_starts s)

-- a space of more starts stops
abbrev pub LargeStops : GivenValue → Status → List ℕ → Type 0
LargeStops (inl rs) s t = ⊥
LargeStops (inr r) s t = (s ≡ status.Starts) × (4096 < size_of r) × (t ≡ many_starts_line (size_of r))

-- the starts that a file gives, as a list or as a space
abbrev pub IsListed : Option (Option (List ℕ)) → Syntax → List StartValue → Type 0
IsListed content p ss = (g : GivenValue) × GivenIs content p g × WritesOut g ss

abbrev pub ListedStops : Type 0 → Option (Option (List ℕ)) → Syntax → Status → List ℕ → Type 0
ListedStops Rose content p = Then (GivenStops Rose content p) (GivenIs content p) (λ g. LargeStops g)

-- 1 to 4096 starts, each for a program
pub record AreFitting (p : Syntax) (ss : List StartValue) : Type 0 where
  pub some : 0 < length ss
  pub few : length ss ≤ 4096
  pub starts : All (IsFor p) ss
