-- What came past the typing has an accepted program.
use Rattle.std.proofs.Common.{ℕ, List, Option, Some, inl, inr}
use Rattle.std.specs.Prelude.{IsTrue}
use Rattle.label_lattice.specs.declared.label.Label.{Label}
use Rattle.mit_syntax.specs.Program.{Syntax}
use Rattle.timing_types.specs.Labelled.{LabelledProgram}
use Rattle.label_code.specs.Shaped.{Code}
use Rattle.start_file.specs.Starts.{StartValue}
use Rattle.tool_texts.specs.declared.status.Status.{Status}
use Rattle.tool_texts.specs.declared.status.Status.TheVariants as status
use Rattle.tool_texts.specs.Ends.{EndsBy}
use Rattle.tool_stages.specs.Stages.{Then, Reads, ProgramStops, Types, TypeStops, StartsAre, StartStops, CertificateStops, Rechecks}
use Rattle.tool_stages.specs.Accepted.{IsAccepted, IsRechecked, is_past_typing}
use Rattle.tool_stages.specs.Begins.{Compiles, Prepares}
use Rattle.tool_stages.specs.Content.{Content}
use Rattle.tool_stages.proofs.SoundLemmas.{typed_made, text_spells, accepted}
use Rattle.tool_stages.proofs.EarlyLemmas.{not_late, program_early, observer_early, type_early, certificate_early}

-- what is so of each answer past the typing is so of a call that ended there
pub ended_past : (old new : Option (List ℕ)) (Before : List ℕ → Type 0) (A : Status → List ℕ → Type 0) (P : Type 0)
    → ((s : Status) (t : List ℕ) → IsTrue (is_past_typing s) → A s t → P) → (s : Status) → EndsBy old new Before A s → IsTrue (is_past_typing s) → P
ended_past old new Before A P f status.Done h past = f status.Done h.0 past h.1
ended_past old new Before A P f status.Refused h past = cc
ended_past old new Before A P f status.Syntax h past = cc
ended_past old new Before A P f status.Starts h past = f status.Starts h.0 past h.1
ended_past old new Before A P f status.Usage h past = cc
ended_past old new Before A P f status.ReadFault h past = cc
ended_past old new Before A P f status.WriteFault h past = cc
ended_past old new Before A P f status.TooLong h past = cc
ended_past old new Before A P f status.Budget h past = f status.Budget h.0 past h.1
ended_past old new Before A P f status.Disagree h past = f status.Disagree h.0 past h.1
ended_past old new Before A P f status.Unfinished h past = f status.Unfinished h.0 past h.1
ended_past old new Before A P f status.Memory h past = cc
ended_past old new Before A P f status.Rejected h past = cc

pub typed_past : (R : Type 0) (c : Option (Option (List ℕ))) (Next : Syntax → LabelledProgram → Status → List ℕ → Type 0) (s : Status) (t : List ℕ)
    → IsTrue (is_past_typing s)
    → Then (ProgramStops R c) (Reads c) (λ p. Then (TypeStops p) (Types p) (λ q. Next p q)) s t → IsAccepted c
typed_past R c Next s t past (inl x) = absurd (not_late s (program_early R c s t x) past)
typed_past R c Next s t past (inr (p, reads, inl x)) = absurd (not_late s (type_early p s t x) past)
typed_past R c Next s t past (inr (p, reads, inr (q, types, n))) = accepted c p q reads types

pub compiled_past : (Rises : List ℕ → Type 0) (content : Content) (file : List ℕ) (observer : Option (List ℕ))
    (Next : Syntax → LabelledProgram → Option Label → Code → Status → List ℕ → Type 0)
    (s : Status) (t : List ℕ) → IsTrue (is_past_typing s) → Compiles Rises content file observer Next s t → IsAccepted (content file)
compiled_past Rises content file observer Next s t past (inl x) = absurd (not_late s (program_early (Rises file) (content file) s t x) past)
compiled_past Rises content file observer Next s t past (inr (p, reads, inl x)) = absurd (not_late s (observer_early p.order observer s t x) past)
compiled_past Rises content file observer Next s t past (inr (p, reads, inr (o, sees, inl x))) = absurd (not_late s (type_early p s t x) past)
compiled_past Rises content file observer Next s t past (inr (p, reads, inr (o, sees, inr (q, types, n)))) = accepted (content file) p q reads types

pub prepared_past : (Rises : List ℕ → Type 0) (content : Content) (file observer : List ℕ) (Rose : Type 0) (c : Option (Option (List ℕ)))
    (Next : Syntax → LabelledProgram → Option Label → Code → List StartValue → Status → List ℕ → Type 0)
    (s : Status) (t : List ℕ) → IsTrue (is_past_typing s) → Prepares Rises content file observer Rose c Next s t → IsAccepted (content file)
prepared_past Rises content file observer Rose c Next =
    compiled_past Rises content file (Some observer) (λ p q o code. Then (StartStops Rose c p) (StartsAre c p) (λ ss. Next p q o code ss))

-- ---- certificates

pub rechecked_past : (R K : Type 0) (c d : Option (Option (List ℕ))) (Next : Syntax → LabelledProgram → Status → List ℕ → Type 0)
    (s : Status) (t : List ℕ) → IsTrue (is_past_typing s)
    → Then (ProgramStops R c) (Reads c) (λ p. Then (CertificateStops K d p) (Rechecks d p) (λ q. Next p q)) s t → IsRechecked c d
rechecked_past R K c d Next s t past (inl x) = absurd (not_late s (program_early R c s t x) past)
rechecked_past R K c d Next s t past (inr (p, reads, inl x)) = absurd (not_late s (certificate_early K d p s t x) past)
rechecked_past R K c d Next s t past (inr (p, reads, inr (q, rechecks, n))) =
    record {
      program = p;
      spells = text_spells c p reads;
      labelled = q;
      rechecks = rechecks;
      typed = typed_made _ p q reads.spelled rechecks.holds.program rechecks.labels.keeps rechecks.typed;
    }
