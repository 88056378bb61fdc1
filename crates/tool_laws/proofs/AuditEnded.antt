-- How a call ends that asks for the audit.
use Rattle.std.proofs.Common.{◌≡◌, ◌∙◌, ap, subst, ℕ, List, [], ◌∷◌, Option, codes}
use Rattle.std.specs.Prelude.{IfSome}
use Rattle.std.proofs.lemmas.List.Elements.{All-nil, All-cons}
use Rattle.tim_base.specs.Faults.{Rose}
use Rattle.tool_words.specs.declared.words.EnvName.TheVariants.{Part}
use Rattle.tool_words.specs.WordsAsked.{Asked, command_of, audit}
use Rattle.tool_texts.specs.declared.status.Status.{Status}
use Rattle.tool_texts.specs.declared.status.Status.TheVariants as status
use Rattle.tool_texts.specs.Ends.{EndsBy}
use Rattle.tool_stages.specs.Content.{Content}
use Rattle.mit_tool.specs.Commands.{IsAnswer, Before}
use Rattle.mit_tool.specs.Once.{HasOneAnswer}
use Rattle.tool_laws.proofs.Endings.{Ended, ends}
use Rattle.tool_laws.specs.FirstAudit.{program_file, starts_file, audit_words, audit_answer, budget}
use Rattle.tool_laws.proofs.AuditAsked.{asks}
use Rattle.tool_laws.proofs.AuditWhole.{HoldsProgram, HoldsStarts, has_one}

abbrev asked : Asked
asked = audit program_file starts_file (codes "L") Part budget

pub call_ends : HasOneAnswer → (content : Content) (before now : List ℕ → ℕ) (old new : Option (List ℕ)) (s : Status) (words : List (List ℕ)) (Fails : Type 0)
    → words ≡ audit_words → HoldsProgram (content program_file) → HoldsStarts (content starts_file)
    → (Rose (before program_file) (now program_file) → ⊥) → (Rose (before starts_file) (now starts_file) → ⊥) → (Fails → ⊥) → (s ≡ status.WriteFault → Fails)
    → IfSome (command_of words) (λ a. EndsBy old new (Before content a) (IsAnswer (λ name. Rose (before name) (now name)) content a) s)
    → Ended audit_answer old new s
call_ends law content before now old new s words Fails e h k n m w write a =
    let P : Asked → Type 0 = λ x. EndsBy old new (Before content x) (IsAnswer (λ name. Rose (before name) (now name)) content x) s in
    let N : List ℕ → Type 0 = λ name. Rose (before name) (now name) → ⊥ in
    let none = All-cons N program_file (starts_file ∷ []) n (All-cons N starts_file [] m (All-nil N)) in
    ends audit_answer old new (IsAnswer (λ name. Rose (before name) (now name)) content asked)
    (has_one law content before now program_file starts_file h k none) s
    (subst (λ (o : Option Asked). IfSome o P) (ap command_of e ∙ asks) a) (λ f. w (write f))
