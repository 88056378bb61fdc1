-- The answer to `check`, in the order of its refusals: that of `why`, as one object of JSON on a line.
use Rattle.std.specs.Prelude.{◌≡◌, ℕ, List, Option}
use Rattle.tim_base.specs.Told.{IsTooLong}
use Rattle.mit_syntax.specs.Plan.{count, mitigates}
use Rattle.mit_syntax.specs.Program.{Syntax, plan_of}
use Rattle.tool_texts.specs.declared.status.Status.{Status}
use Rattle.tool_texts.specs.declared.status.Status.TheVariants as status
use Rattle.tool_stages.specs.Stages.{Then, Reads, Types}
use Rattle.tool_stages.specs.Content.{Content}
use Rattle.found_print.specs.Plain.{read_fault_object, too_long_object, accepted_object}
use Rattle.lab_check.specs.Faults.{HasFaultFound}
use Rattle.lab_check.specs.Reasons.{HasReasonFound}

-- what stops the reading of a program
abbrev pub CheckStops : Type 0 → Option (Option (List ℕ)) → Status → List ℕ → Type 0
CheckStops Rose content status.ReadFault t = Rose × (t ≡ read_fault_object)
CheckStops Rose content status.TooLong t = IsTooLong content × (t ≡ too_long_object)
CheckStops Rose content status.Syntax t = HasFaultFound content t
CheckStops Rose content _ t = ⊥

-- a program that no labelling types
abbrev pub FoundStops : Option (Option (List ℕ)) → Syntax → Status → List ℕ → Type 0
FoundStops content p status.Refused t = HasReasonFound content p t
FoundStops content p _ t = ⊥

-- a program that is accepted
abbrev pub HasAccepted : Syntax → Status → List ℕ → Type 0
HasAccepted p s t = (s ≡ status.Done) × (t ≡ accepted_object (count (plan_of p)) (mitigates (plan_of p)))

-- the answer for a program that was read
abbrev pub IsFound : Option (Option (List ℕ)) → Syntax → Status → List ℕ → Type 0
IsFound content p = Then (FoundStops content p) (Types p) (λ q. HasAccepted p)

-- `Rises` tells the names whose counts of faults rose
abbrev pub IsCheckAnswer : (List ℕ → Type 0) → Content → List ℕ → Status → List ℕ → Type 0
IsCheckAnswer Rises content file = Then (CheckStops (Rises file) (content file)) (Reads (content file)) (λ p. IsFound (content file) p)
