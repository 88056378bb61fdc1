-- The machine that runs are made on comes before what is asked of them.
use Rattle.std.specs.Prelude.{◌≡◌, ◌⊎◌, ℕ, List, [], ◌∷◌}
use Rattle.hardware.specs.declared.make.MakeHardware.{MakeHardware}
use Rattle.tool_words.specs.declared.words.EnvName.TheVariants.{Part}
use Rattle.tool_texts.specs.declared.status.Status.{Status}
use Rattle.tool_stages.specs.Content.{Content}
use Rattle.tool_stages.specs.Stages.{Then}
use Rattle.tool_stages.specs.declared.envs.Environment.{Environment}
use Rattle.tool_stages.specs.declared.envs.Environment.TheVariants.{Named, Described}
use Rattle.machine_stage.specs.Stage.{MachineIs, MachineStops}
use Rattle.lab_words.specs.QuestionAsked.{MachineAsked, named, described}
use Rattle.lab_words.specs.QuestionAsked.{Asked, why, why_starts, why_audit, seen, timeline, bound, steady, leak, tune, check, help, version}

-- the machine that a question asks about; the usual one where it asks about no runs
abbrev pub machine_in : Asked → MachineAsked
machine_in (why file of) = named Part
machine_in (why_starts file starts) = named Part
machine_in (why_audit file starts observer machine budget) = machine
machine_in (seen file starts observer machine budget refused) = machine
machine_in (timeline file starts observer machine budget refused) = machine
machine_in (bound file starts observer machine budget) = machine
machine_in (steady file observer parts constant whole) = named Part
machine_in (leak file starts observer machine budget refused) = machine
machine_in (tune file starts observer machine budget mark bits) = machine
machine_in (check file) = named Part
machine_in (help command) = named Part
machine_in version = named Part

-- the file that describes a machine
abbrev pub machine_files : MachineAsked → List (List ℕ)
machine_files (named env) = []
machine_files (described file) = file ∷ []

-- The rest goes on in the environment with the name, or first of all a file is read, and it goes on in that of the machine
-- that the file describes.
abbrev pub OnMachine : (List ℕ → Type 0) → Content → MachineAsked → (Environment → Status → List ℕ → Type 0) → Status → List ℕ → Type 0
OnMachine Rises content (named env) Next = Next (Named env)
OnMachine Rises content (described file) Next = Then (MachineStops (Rises file) (content file)) (MachineIs (content file)) (λ m. Next (Described m))

-- what may stand before the line for memory: what may stand there in the environment, and before that nothing
abbrev pub BeforeOn : Content → MachineAsked → (Environment → List ℕ → Type 0) → List ℕ → Type 0
BeforeOn content (named env) Before b = Before (Named env) b
BeforeOn content (described file) Before b = (b ≡ []) ⊎ ((m : MakeHardware) × MachineIs (content file) m × Before (Described m) b)

-- a file that is to describe a machine describes one, and it is so in the environment
abbrev pub GoesOn : Content → MachineAsked → (Environment → Type 0) → Type 0
GoesOn content (named env) Goes = Goes (Named env)
GoesOn content (described file) Goes = (m : MakeHardware) × MachineIs (content file) m × Goes (Described m)
