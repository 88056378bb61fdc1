-- The status and the text of what is told of a program.
use Rattle.std.specs.Prelude.{ℕ, List, Option}
use Rattle.mit_syntax.specs.Plan.{count, mitigates}
use Rattle.mit_syntax.specs.Program.{Syntax, plan_of}
use Rattle.tool_texts.specs.declared.status.Status.{Status}
use Rattle.tool_texts.specs.declared.status.Status.TheVariants as status
use Rattle.tool_texts.specs.Texts.{accepted_line}
use Rattle.tool_stages.specs.Stages.{Reads, Types}
use Rattle.lab_why.specs.Reasons.{HasReason}
use Rattle.lab_why.specs.Faulty.{HasFaultTold}
use Rattle.lab_why.specs.declared.explained.Explained.{Explained}
use Rattle.lab_why.specs.declared.explained.Explained.TheVariants as explained

abbrev pub status_told : Explained → Status
status_told (explained.Accepted q) = status.Done
status_told (explained.Refused lines) = status.Refused
status_told (explained.Faulty lines) = status.Syntax

abbrev pub text_told : Explained → List ℕ
text_told (explained.Accepted q) = accepted_line (count (plan_of q.labelled.program)) (mitigates (plan_of q.labelled.program))
text_told (explained.Refused lines) = lines.items
text_told (explained.Faulty lines) = lines.items

-- of the program that a file holds, or of the fault of its text
abbrev pub IsExplained : Option (Option (List ℕ)) → Explained → Type 0
IsExplained content (explained.Accepted q) = (p : Syntax) × Reads content p × Types p q.labelled
IsExplained content (explained.Refused lines) = (p : Syntax) × Reads content p × HasReason content p lines.items
IsExplained content (explained.Faulty lines) = HasFaultTold content lines.items
