-- A program's answer, of a sink that had taken nothing.
use Rattle.std.proofs.Common.{◌≡◌, subst, ℕ, List, Option, Some, None}
use Rattle.tim_base.specs.MemorySinks.{MemorySink, empty_sink}
use Rattle.tim_base.specs.Faults.{Rose}
use Rattle.tool_texts.specs.declared.status.Status.{Status}
use Rattle.tool_texts.specs.Statuses.{exit_number}
use Rattle.tool_stages.specs.Content.{Content}
use Rattle.mit_web.specs.declared.call.Program.{Program}
use Rattle.mit_web.specs.Calls.{Answered, IsAnswerOf}

module _ (program : Program) (words : List (List ℕ)) (held : List ℕ → Option (List ℕ)) (content : Content) (before after : List ℕ → ℕ) (status : Status)
    (old new : MemorySink) (room : ℕ) where
  pub answer_of : old ≡ empty_sink room → ((name : List ℕ) → content name ≡ Some (held name))
      → Answered program old.bytes words content (λ name. Rose (before name) (after name)) new.bytes status
      → (number : ℕ) → number ≡ exit_number status → IsAnswerOf program words held number new.bytes
  answer_of e h a number n = record {
    status = status;
    numbered = n;
    content = content;
    holds = h;
    before = before;
    after = after;
    answered = subst (λ o. Answered program o.bytes words content (λ name. Rose (before name) (after name)) new.bytes status) e a;
  }
