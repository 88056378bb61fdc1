-- What is told of a file whose text is no program: the tool's own line, and behind it lines on the fault.
use Rattle.std.specs.Prelude.{◌≡◌, ◌⊎◌, ℕ, List, ◌++◌, Option}
use Rattle.fault_print.specs.Faults.{TellsText, TellsTokens}
use Rattle.tool_texts.specs.declared.status.Status.{Status}
use Rattle.tool_texts.specs.declared.status.Status.TheVariants as status
use Rattle.tool_stages.specs.Stages.{HasTextFault, HasParseFault, ProgramStops, Reads}
use Rattle.lab_why.specs.declared.faulty.Spelled.{Spelled}
use Rattle.lab_why.specs.declared.faulty.Spelled.TheVariants as spelled

-- the file's bytes are no text of tokens
pub record HasTextTold (content : Option (Option (List ℕ))) (t : List ℕ) : Type 0 where
  pub line : List ℕ
  pub stops : HasTextFault content line
  pub more : List ℕ
  pub tells : TellsText stops.bytes stops.fault more
  pub text : t ≡ line ++ more

-- the file's tokens are no program
pub record HasTokensTold (content : Option (Option (List ℕ))) (t : List ℕ) : Type 0 where
  pub line : List ℕ
  pub stops : HasParseFault content line
  pub more : List ℕ
  pub tells : TellsTokens stops.bytes stops.tokens stops.fault more
  pub text : t ≡ line ++ more

abbrev pub HasFaultTold : Option (Option (List ℕ)) → List ℕ → Type 0
HasFaultTold content t = HasTextTold content t ⊎ HasTokensTold content t

-- what stops the reading of a program, as `why` tells it
abbrev pub WhyStops : Type 0 → Option (Option (List ℕ)) → Status → List ℕ → Type 0
WhyStops Rose content status.Syntax t = HasFaultTold content t
WhyStops Rose content s t = ProgramStops Rose content s t

-- the program that a text spells, or what is told of its fault
abbrev pub IsSpelled : Option (Option (List ℕ)) → List ℕ → Spelled → Type 0
IsSpelled content text (spelled.Spells p) = (reads : Reads content p) × (reads.bytes ≡ text)
IsSpelled content text (spelled.Faulty lines) = HasFaultTold content lines.items
