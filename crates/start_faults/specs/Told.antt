-- What is told of a start file that is refused, behind the tool's own line.
use Rattle.std.specs.Prelude.{◌≡◌, ℕ, List, [], ◌++◌, Option, Some, None, codes}
use Rattle.toml.specs.Data.{Data, Members, get_member}
use Rattle.mit_syntax.specs.Program.{Syntax}
use Rattle.start_file.specs.declared.fault.StartFault.{StartFault}
use Rattle.start_file.specs.declared.fault.StartFault.TheVariants.{NotToml, Version as BadVersion, UnknownKey, NoRuns, TooMany, NotNumber, BadTouch, Memory}
use Rattle.start_file.specs.declared.version.Version.{Version}
use Rattle.start_file.specs.Tables.{members_in}
use Rattle.start_file.specs.Versions.{version_of}
use Rattle.start_file.specs.Starts.{IsDocument}
use Rattle.start_faults.specs.Found.{at_line, expected_line, place_lines}
use Rattle.start_faults.specs.Names.{run_at, unknown_lines}
use Rattle.start_faults.specs.Values.{number_lines}
use Rattle.start_faults.specs.Touches.{touches_lines}

-- what a start file is
unfoldable pub form_lines : List ℕ
form_lines = codes "expected a TOML document: [[run]] begins each run, and memory.NAME = NUMBER gives a variable its value\n"

unfoldable pub most_runs : List ℕ
most_runs = codes "expected at most 4096 runs\n"

-- a value of the run with a number
abbrev pub in_run : List ℕ → Members → ℕ → Option Data
in_run key ms n = get_member key (members_in (run_at ms n))

-- a document of this version
abbrev pub lines_of : Syntax → Version → Members → StartFault → List ℕ
lines_of p v ms (UnknownKey n) = unknown_lines p.declarations v ms n
lines_of p v ms NoRuns = place_lines (codes "run") (get_member (codes "run") ms) (codes "[[run]]")
lines_of p v ms (TooMany n) = most_runs
lines_of p v ms (NotNumber n) = number_lines p.declarations (in_run (codes "memory") ms n)
lines_of p v ms (BadTouch n) = touches_lines v p.order (in_run (codes "touch") ms n)
lines_of p v ms NotToml = []
lines_of p v ms BadVersion = []
lines_of p v ms Memory = []

abbrev pub versioned_lines : Syntax → Option Version → Members → StartFault → List ℕ
versioned_lines p None ms f = place_lines (codes "version") (get_member (codes "version") ms) (codes "1 or 2")
versioned_lines p (Some v) ms f = lines_of p v ms f

-- a document, or none
abbrev pub document_lines : Syntax → Option Members → StartFault → List ℕ
document_lines p None f = form_lines
document_lines p (Some ms) f = versioned_lines p (version_of (get_member (codes "version") ms)) ms f

-- The lines on a fault of the start file with these bytes: the place, by its keys, what stands there, and what has to stand there.
abbrev pub TellsStarts : Syntax → List ℕ → StartFault → List ℕ → Type 0
TellsStarts p bytes f t = (d : Option Members) × IsDocument bytes d × (t ≡ document_lines p d f)
