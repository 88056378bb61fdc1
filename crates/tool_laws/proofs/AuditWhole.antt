-- The audit, stage by stage.
use Rattle.std.proofs.Common.{◌≡◌, ◌≤◌, refl, sym, subst, ℕ, List, [], ◌∷◌, length, Option, Some, inr, codes, arith}
use Rattle.std.proofs.lemmas.List.Elements.{All-nil, All-cons}
use Rattle.tim_base.specs.Faults.{Rose}
use Rattle.timing_types.specs.Labelled.{LabelledProgram}
use Rattle.code_lower.specs.Lowered.{lowered}
use Rattle.tool_words.specs.declared.words.EnvName.TheVariants.{Part}
use Rattle.tool_words.specs.WordsAsked.{Asked, audit}
use Rattle.tool_stages.specs.declared.envs.Environment.TheVariants.{Named}
use Rattle.tool_texts.specs.declared.status.Status.{Status}
use Rattle.tool_texts.specs.declared.status.Status.TheVariants.{Done}
use Rattle.tool_stages.specs.Stages.{Observes, Types}
use Rattle.tool_stages.specs.Content.{Content, IsKnown, AreKnown, NoneRises}
use Rattle.tool_stages.specs.Goes.{IsTypable, CanBeAudited}
use Rattle.tool_stages.proofs.OneLemmas.{one_typed}
use Rattle.mit_tool.specs.Commands.{IsAnswer}
use Rattle.mit_tool.specs.Complete.{CanBeDone}
use Rattle.mit_tool.specs.Once.{HasOneAnswer}
use Rattle.tool_laws.proofs.Order.{low, two, two_order}
use Rattle.tool_laws.specs.FirstAudit.{program_text, starts_text, observer, budget, audit_answer}
use Rattle.tool_laws.proofs.AuditProgram.{program}
use Rattle.tool_laws.proofs.AuditTypes.{labels, labelled, are_labels, typed}
use Rattle.tool_laws.proofs.Premises.{reads, types}
use Rattle.tool_laws.proofs.Starts.{both_starts, starts_are}
use Rattle.tool_laws.proofs.Audited.{can_be_audited, report, reports, tells}

-- files are told to hold the two texts
abbrev pub HoldsProgram : Option (Option (List ℕ)) → Type 0
HoldsProgram c = c ≡ Some (Some program_text)

abbrev pub HoldsStarts : Option (Option (List ℕ)) → Type 0
HoldsStarts c = c ≡ Some (Some starts_text)

abbrev asked : List ℕ → List ℕ → Asked
asked file starts = audit file starts (codes "L") Part budget

known : (content : Content) (file starts : List ℕ) → HoldsProgram (content file) → HoldsStarts (content starts) → AreKnown content (file ∷ starts ∷ [])
known content file starts h k =
    let P : List ℕ → Type 0 = λ name. IsKnown (content name) in
    All-cons P file (starts ∷ []) (subst IsKnown (sym h) tt) (All-cons P starts [] (subst IsKnown (sym k) tt) (All-nil P))

observes : Observes two (Some (codes "L")) (Some low)
observes = (omega arith, refl)

typable : IsTypable program
typable = (labels, are_labels, typed)

-- what goes on with the least labelling, of which there is one
abbrev GoesOn : LabelledProgram → Type 0
GoesOn q = (length (lowered q).instrs ≤ 200000) × CanBeAudited (Named Part) budget q observer both_starts

eight : length (lowered labelled).instrs ≡ 8
eight = refl

goes_on : (q : LabelledProgram) → Types program q → GoesOn q
goes_on q y = subst GoesOn (one_typed program labelled q two_order types y) (omega (arith, eight), can_be_audited)

pub can_be_done : (content : Content) (file starts : List ℕ) → HoldsProgram (content file) → HoldsStarts (content starts)
    → CanBeDone content (asked file starts)
can_be_done content file starts h k = record {
  known = known content file starts h k;
  goes = (
    program,
    reads (content file) h,
    Some low,
    observes,
    (typable, λ q y. let g = goes_on q y in (g.0, (both_starts, starts_are (content starts) k, g.1))),
  );
}

pub has_answer : (Rises : List ℕ → Type 0) (content : Content) (file starts : List ℕ) → HoldsProgram (content file) → HoldsStarts (content starts)
    → IsAnswer Rises content (asked file starts) Done audit_answer
has_answer Rises content file starts h k =
    inr (
      program,
      reads (content file) h,
      inr (
        Some low,
        observes,
        inr (
          labelled,
          types,
          inr (
            lowered labelled,
            (refl, omega (arith, eight)),
            inr (both_starts, starts_are (content starts) k, inr (report, reports, (refl, sym tells))),
          ),
        ),
      ),
    )

pub has_one : HasOneAnswer → (content : Content) (before now : List ℕ → ℕ) (file starts : List ℕ) → HoldsProgram (content file) → HoldsStarts (content starts)
    → NoneRises (λ name. Rose (before name) (now name)) (file ∷ starts ∷ [])
    → (s : Status) (x : List ℕ) → IsAnswer (λ name. Rose (before name) (now name)) content (asked file starts) s x → (s ≡ Done) × (x ≡ audit_answer)
has_one law content before now file starts h k n s x a =
    law content before now (asked file starts) s Done x audit_answer
    (known content file starts h k) n
    a (has_answer (λ name. Rose (before name) (now name)) content file starts h k)
