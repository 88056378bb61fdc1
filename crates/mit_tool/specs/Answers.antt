-- What the answer to a command tells, after its stages: its status and its text.
use Rattle.std.specs.Prelude.{◌≡◌, ◌^◌, ℕ, List, [], length, Option, Some, codes}
use Rattle.label_lattice.specs.declared.label.Label.{Label}
use Rattle.mit_syntax.specs.Plan.{count, mitigates}
use Rattle.mit_syntax.specs.Program.{Syntax, plan_of}
use Rattle.timing_types.specs.Labelled.{LabelledProgram}
use Rattle.label_code.specs.Shaped.{Code}
use Rattle.type_cert.specs.Certificate.{IsCertificate}
use Rattle.type_cert.specs.Derived.{derived_text}
use Rattle.label_write.specs.Written.{labelled_text}
use Rattle.image_print.specs.ImageText.{image_text}
use Rattle.mit_gen.specs.Made.{program_text, starts_text}
use Rattle.start_file.specs.Starts.{StartValue}
use Rattle.cycle_machine.specs.declared.end.RunEnd.{RunEnd}
use Rattle.cycle_machine.specs.declared.end.RunEnd.TheVariants.{Halted, Limit}
use Rattle.event_print.specs.Text.{text_of}
use Rattle.cycle_machine.specs.Rest.{Told}
use Rattle.tool_words.specs.declared.words.EnvName.{EnvName}
use Rattle.tool_words.specs.declared.words.EnvName.TheVariants.{Part}
use Rattle.tool_stages.specs.declared.envs.Environment.TheVariants.{Named}
use Rattle.tool_texts.specs.declared.status.Status.{Status}
use Rattle.tool_texts.specs.declared.status.Status.TheVariants as status
use Rattle.tool_texts.specs.Texts.{rechecked_line, usage_text}
use Rattle.tool_texts.specs.Reports.{made_lines}
use Rattle.tool_stages.specs.Envs.{told_in}
use Rattle.tool_stages.specs.Begins.{Prepares}
use Rattle.tool_stages.specs.Content.{Content}
use Rattle.mit_tool.specs.Audited.{HasAudited}

-- a machine that has halted by T is done, and else its budget is spent
abbrev pub status_at : RunEnd → Status
status_at (Halted c) = status.Done
status_at (Limit c) = status.Budget

-- the events of a run that are shown and its end, and the status of that
abbrev pub HasTold : LabelledProgram → Option Label → Told → Status → List ℕ → Type 0
HasTold q o told s t = (s ≡ status_at told.end) × (t ≡ text_of q o told)

-- a run up to T tells its events, or those that the observer sees, and its end
abbrev pub HasRun : EnvName → ℕ → LabelledProgram → Option Label → Code → StartValue → Status → List ℕ → Type 0
HasRun e budget q o code start = HasTold q o (told_in (Named e) q.program.order code start budget)

-- the canonical text of a program with all labels
abbrev pub HasInferred : LabelledProgram → Status → List ℕ → Type 0
HasInferred q s t = (s ≡ status.Done) × (t ≡ labelled_text q)

-- the text of an image
abbrev pub HasListed : LabelledProgram → Code → Status → List ℕ → Type 0
HasListed q code s t = (s ≡ status.Done) × (t ≡ image_text q.program code)

-- a made program stands for the content of a file
abbrev pub made_content : ℕ → ℕ → Content
made_content size number name = Some (Some (program_text size number))

-- the certificate of a program with its labels: the one of its derivation
abbrev pub HasCertified : LabelledProgram → Status → List ℕ → Type 0
HasCertified q s t = (s ≡ status.Done) × (t ≡ derived_text q) × IsCertificate q t

-- a certificate is accepted: how many commands and mitigates the program has
abbrev pub HasRechecked : Syntax → Status → List ℕ → Type 0
HasRechecked p s t = (s ≡ status.Done) × (t ≡ rechecked_line (count (plan_of p)) (mitigates (plan_of p)))

-- words that ask for nothing
abbrev pub IsUsage : Status → List ℕ → Type 0
IsUsage s t = (s ≡ status.Usage) × (t ≡ usage_text)

-- a made program is audited for L, with its made starts, as if they were the content of files
abbrev pub HasGenerated : ℕ → ℕ → Status → List ℕ → Type 0
HasGenerated size number =
    Prepares (λ name. ⊥) (made_content size number) [] (codes "L") ⊥ (Some (Some starts_text)) (λ p q o code ss.
    HasAudited Part (2 ^ 40) q o ss (made_lines size number (count (plan_of p)) (length code.instrs)))
