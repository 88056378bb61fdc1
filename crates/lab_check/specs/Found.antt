-- What is found in a text, on the way to the answer.
use Rattle.std.specs.Prelude.{◌≡◌, ℕ, List, Option}
use Rattle.tool_texts.specs.declared.status.Status.{Status}
use Rattle.tool_texts.specs.declared.status.Status.TheVariants as status
use Rattle.tool_texts.specs.declared.stop.Stop.{Stop}
use Rattle.tool_texts.specs.Ends.{status_of, stop_text}
use Rattle.tool_stages.specs.Stages.{Then, Reads}
use Rattle.found_print.specs.Plain.{read_fault_object, too_long_object}
use Rattle.lab_check.specs.Answers.{CheckStops, IsFound}
use Rattle.lab_check.specs.Faults.{HasFaultFound}
use Rattle.lab_check.specs.declared.answer.Answer.{Answer}
use Rattle.lab_check.specs.declared.faulty.Spelled.{Spelled}
use Rattle.lab_check.specs.declared.faulty.Spelled.TheVariants as spelled

-- the program that a text spells, or the object of its fault
abbrev pub IsSpelled : Option (Option (List ℕ)) → List ℕ → Spelled → Type 0
IsSpelled content text (spelled.Spells p) = (reads : Reads content p) × (reads.bytes ≡ text)
IsSpelled content text (spelled.Faulty t) = HasFaultFound content t.items

-- the answer for a text, whether it spells a program or not
abbrev pub IsTextAnswer : Option (Option (List ℕ)) → Answer → Type 0
IsTextAnswer content a =
    Then (CheckStops ⊥ content) (Reads content) (λ p. IsFound content p) a.status a.text.items

-- what is written of a stop, by its status and its text: an object where a file is not read
abbrev pub unread_line : Status → List ℕ → List ℕ
unread_line status.ReadFault t = read_fault_object
unread_line status.TooLong t = too_long_object
unread_line s t = t

abbrev pub unread_text : Stop → List ℕ
unread_text why = unread_line (status_of why) (stop_text why)
