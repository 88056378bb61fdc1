-- What an observer sees of the runs of a program, a line for each.
use Rattle.std.specs.Prelude.{◌≡◌, ℕ, List, ◌++◌, Bool, Option, Some, None, codes, decimal}
use Rattle.label_lattice.specs.declared.label.Label.{Label}
use Rattle.timing_types.specs.Labelled.{LabelledProgram}
use Rattle.label_code.specs.Shaped.{Code}
use Rattle.start_file.specs.Starts.{StartValue}
use Rattle.cycle_machine.specs.Rest.{Told}
use Rattle.seen_line.specs.Field.{seen_text}
use Rattle.tool_stages.specs.declared.envs.Environment.{Environment}
use Rattle.tool_texts.specs.declared.status.Status.{Status}
use Rattle.tool_stages.specs.Content.{Content}
use Rattle.tool_stages.specs.Envs.{told_in}
use Rattle.lab_runs.specs.Runs.{texts}
use Rattle.lab_runs.specs.Shown.{ShowsRuns, ShowsBefore}

-- the number of a run, a tab, and the field of what the observer sees of it
abbrev pub line_text : LabelledProgram → Label → ℕ → Told → List ℕ
line_text q l r told = decimal r ++ (codes "\t" ++ (seen_text q l told ++ codes "\n"))

-- the line of the run from a start, in an environment, up to T
abbrev pub line_in : Environment → ℕ → LabelledProgram → Label → Code → ℕ → StartValue → List ℕ
line_in e t q l code r s = line_text q l r (told_in e q.program.order code s t)

-- the lines of the runs from all starts, in order
abbrev pub AreLines : Environment → ℕ → LabelledProgram → Option Label → Code → List StartValue → List ℕ → Type 0
AreLines e t q None code ss x = ⊥
AreLines e t q (Some l) code ss x = x ≡ texts (line_in e t q l code) ss

-- the answer of `seen`, where refused programs are asked for and where not
abbrev pub IsSeen : (List ℕ → Type 0) → Content → List ℕ → List ℕ → List ℕ → Environment → ℕ → Bool → Status → List ℕ → Type 0
IsSeen Rises content file starts observer e t refused = ShowsRuns refused Rises content file starts (Some observer) (AreLines e t)

-- what may stand before the line for memory
abbrev pub SeenBefore : Content → List ℕ → List ℕ → List ℕ → Environment → ℕ → Bool → List ℕ → Type 0
SeenBefore content file starts observer e t refused = ShowsBefore refused content file starts (Some observer) (AreLines e t)
