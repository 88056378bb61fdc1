-- The answer to `why`, in the order of its refusals.
use Rattle.std.specs.Prelude.{ℕ, List, Option}
use Rattle.mit_syntax.specs.Program.{Syntax}
use Rattle.tool_texts.specs.declared.status.Status.{Status}
use Rattle.tool_texts.specs.declared.status.Status.TheVariants as status
use Rattle.tool_stages.specs.Stages.{Then, Reads, Types}
use Rattle.tool_stages.specs.Accepted.{HasChecked}
use Rattle.tool_stages.specs.Content.{Content}
use Rattle.lab_why.specs.Reasons.{HasReason}
use Rattle.lab_why.specs.Faulty.{WhyStops}

-- a program that no labelling types ends with its reason
abbrev pub ReasonStops : Option (Option (List ℕ)) → Syntax → Status → List ℕ → Type 0
ReasonStops content p status.Refused t = HasReason content p t
ReasonStops content p _ t = ⊥

-- the answer for a program that was read
abbrev pub IsTypeAnswer : Option (Option (List ℕ)) → Syntax → Status → List ℕ → Type 0
IsTypeAnswer content p = Then (ReasonStops content p) (Types p) (λ q. HasChecked p)

-- `Rises` tells the names whose counts of faults rose
abbrev pub IsWhyAnswer : (List ℕ → Type 0) → Content → List ℕ → Status → List ℕ → Type 0
IsWhyAnswer Rises content file = Then (WhyStops (Rises file) (content file)) (Reads (content file)) (λ p. IsTypeAnswer (content file) p)
