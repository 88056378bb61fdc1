-- How `why` ends.
use Rattle.std.proofs.Common.{◌≡◌, ℕ, List, Option, Some, None, refl, sym, subst, ◌∙◌, inl, inr}
use Rattle.std.proofs.lemmas.Option.{none-some}
use Rattle.flow_path.specs.declared.step.Spot.{Spot}
use Rattle.mit_syntax.specs.Program.{Syntax}
use Rattle.timing_types.specs.Labelled.{LabelledProgram, HasType}
use Rattle.tool_texts.specs.declared.status.Status.{Status}
use Rattle.tool_texts.specs.declared.status.Status.TheVariants as status
use Rattle.tool_stages.specs.Accepted.{HasChecked}
use Rattle.tool_stages.specs.Stages.{Then, Reads, ProgramStops, Types}
use Rattle.tool_stages.specs.Content.{Content, IsKnown}
use Rattle.tool_stages.specs.Goes.{IsTypable}
use Rattle.tool_stages.proofs.GoesLemmas.{program_goes}
use Rattle.tool_stages.proofs.OneLemmas.{one_program, same_labelled}
use Rattle.lab_check.specs.Answers.{IsCheckAnswer}
use Rattle.lab_check.proofs.OneFound.{answer_told}
use Rattle.lab_why.specs.Answers.{ReasonStops, IsWhyAnswer}
use Rattle.lab_why.specs.Faulty.{WhyStops}
use Rattle.lab_why.proofs.FaultLemmas.{why_goes}
use Rattle.lab_why.specs.Reasons.{HasReason}
use Rattle.lab_why.specs.Names.{named}
use Rattle.lab_why.specs.Origins.{HasOrigins, IsOriginAnswer, NameStops, no_name_text}
use Rattle.lab_tool.specs.Complete.{Names, WhyGoes}

-- a stage that does not stop and gives one value at most, and then ends
pub then_ends : {A : Type 0} (Stops : Status → List ℕ → Type 0) (Gives : A → Type 0) (Next : A → Status → List ℕ → Type 0) (s e : Status) (t : List ℕ)
    (a : A) → Gives a → ((a b : A) → Gives a → Gives b → a ≡ b) → (Stops s t → ⊥) → (Next a s t → s ≡ e) → Then Stops Gives Next s t → s ≡ e
then_ends Stops Gives Next s e t a given one f g (inl h) = absurd (f h)
then_ends Stops Gives Next s e t a given one f g (inr h) =
    let same : h.0 ≡ a = one h.0 a h.1 given in
    g (subst (λ z. Next z s t) same h.2)

pub reason_stops : (c : Option (Option (List ℕ))) (p : Syntax) (s : Status) (t : List ℕ) → ReasonStops c p s t → (s ≡ status.Refused) × HasReason c p t
reason_stops c p status.Done t h = absurd h
reason_stops c p status.Refused t h = (refl, h)
reason_stops c p status.Syntax t h = absurd h
reason_stops c p status.Starts t h = absurd h
reason_stops c p status.Usage t h = absurd h
reason_stops c p status.ReadFault t h = absurd h
reason_stops c p status.WriteFault t h = absurd h
reason_stops c p status.TooLong t h = absurd h
reason_stops c p status.Budget t h = absurd h
reason_stops c p status.Disagree t h = absurd h
reason_stops c p status.Unfinished t h = absurd h
reason_stops c p status.Memory t h = absurd h
reason_stops c p status.Rejected t h = absurd h

pub is_typable : (p : Syntax) (q : LabelledProgram) → Types p q → IsTypable p
is_typable p q k =
    let program : q.program ≡ p = k.program in
    (q.labels, k.least.labels, subst HasType (same_labelled q.program p q.labels q.labels program refl) k.typed)

-- a typable program is accepted
accepted_ends : (c : Option (Option (List ℕ))) (p : Syntax) (s : Status) (t : List ℕ) → IsTypable p
    → Then (ReasonStops c p) (Types p) (λ q. HasChecked p) s t → s ≡ status.Done
accepted_ends c p s t can (inl h) =
    let stop = reason_stops c p s t h in
    absurd (stop.1.refused.none can.0 can.1 can.2)
accepted_ends c p s t can (inr h) = h.2.0

-- any other one is refused
refused_ends : (c : Option (Option (List ℕ))) (p : Syntax) (s : Status) (t : List ℕ) → (IsTypable p → ⊥)
    → Then (ReasonStops c p) (Types p) (λ q. HasChecked p) s t → s ≡ status.Refused
refused_ends c p s t not (inl h) = (reason_stops c p s t h).0
refused_ends c p s t not (inr h) = absurd (not (is_typable p h.0 h.1))

pub why_ends : (Rises : List ℕ → Type 0) (content : Content) (file : List ℕ) (s e : Status) (t : List ℕ) → (Rises file → ⊥)
    → IsKnown (content file) → WhyGoes (content file) e
    → IsWhyAnswer Rises content file s t → s ≡ e
why_ends Rises content file s status.Done t n known goes h =
    then_ends (WhyStops (Rises file) (content file)) (Reads (content file))
    (λ p. Then (ReasonStops (content file) p) (Types p) (λ q. HasChecked p)) s status.Done t
    goes.0 goes.1 (one_program (content file) known) (why_goes (Rises file) (content file) goes.0 s t n known goes.1)
    (accepted_ends (content file) goes.0 s t goes.2) h
why_ends Rises content file s status.Refused t n known goes h =
    then_ends (WhyStops (Rises file) (content file)) (Reads (content file))
    (λ p. Then (ReasonStops (content file) p) (Types p) (λ q. HasChecked p)) s status.Refused t
    goes.0 goes.1 (one_program (content file) known) (why_goes (Rises file) (content file) goes.0 s t n known goes.1)
    (refused_ends (content file) goes.0 s t goes.2) h
why_ends Rises content file s status.Syntax t n known goes h = absurd goes
why_ends Rises content file s status.Starts t n known goes h = absurd goes
why_ends Rises content file s status.Usage t n known goes h = absurd goes
why_ends Rises content file s status.ReadFault t n known goes h = absurd goes
why_ends Rises content file s status.WriteFault t n known goes h = absurd goes
why_ends Rises content file s status.TooLong t n known goes h = absurd goes
why_ends Rises content file s status.Budget t n known goes h = absurd goes
why_ends Rises content file s status.Disagree t n known goes h = absurd goes
why_ends Rises content file s status.Unfinished t n known goes h = absurd goes
why_ends Rises content file s status.Memory t n known goes h = absurd goes
why_ends Rises content file s status.Rejected t n known goes h = absurd goes

-- `check` ends as `why` does
pub check_ends : (Rises : List ℕ → Type 0) (content : Content) (file : List ℕ) (s e : Status) (t : List ℕ) → (Rises file → ⊥)
    → IsKnown (content file) → WhyGoes (content file) e → IsCheckAnswer Rises content file s t → s ≡ e
check_ends Rises content file s e t n known goes h =
    let told = answer_told Rises content file s t h in why_ends Rises content file s e told.0 n known goes told.1

pub name_stops : (p : Syntax) (w : List ℕ) (s : Status) (t : List ℕ) → NameStops p w s t → (s ≡ status.Usage) × (named p w ≡ None)
    × (t ≡ no_name_text p)
name_stops p w status.Done t h = absurd h
name_stops p w status.Refused t h = absurd h
name_stops p w status.Syntax t h = absurd h
name_stops p w status.Starts t h = absurd h
name_stops p w status.Usage t h = (refl, h.0, h.1)
name_stops p w status.ReadFault t h = absurd h
name_stops p w status.WriteFault t h = absurd h
name_stops p w status.TooLong t h = absurd h
name_stops p w status.Budget t h = absurd h
name_stops p w status.Disagree t h = absurd h
name_stops p w status.Unfinished t h = absurd h
name_stops p w status.Memory t h = absurd h
name_stops p w status.Rejected t h = absurd h

told_ends : (c : Option (Option (List ℕ))) (p : Syntax) (w : List ℕ) (spot : Spot) (s : Status) (t : List ℕ) → named p w ≡ Some spot
    → Then (NameStops p w) (λ spot. named p w ≡ Some spot) (λ spot s t. (s ≡ status.Done) × HasOrigins c p w spot t) s t → s ≡ status.Done
told_ends c p w spot s t is (inl h) = absurd (none-some spot (sym (name_stops p w s t h).1 ∙ is))
told_ends c p w spot s t is (inr h) = h.2.0

-- `--of` a word that names something is done
pub origin_ends : (Rises : List ℕ → Type 0) (content : Content) (file w : List ℕ) (s : Status) (t : List ℕ) → (Rises file → ⊥)
    → IsKnown (content file) → Names (content file) w
    → IsOriginAnswer Rises content file w s t → s ≡ status.Done
origin_ends Rises content file w s t n known goes h =
    then_ends (ProgramStops (Rises file) (content file)) (Reads (content file))
    (λ p. Then (NameStops p w) (λ spot. named p w ≡ Some spot) (λ spot s t. (s ≡ status.Done) × HasOrigins (content file) p w spot t)) s status.Done t
    goes.0 goes.1 (one_program (content file) known) (program_goes (Rises file) (content file) goes.0 s t n known goes.1)
    (told_ends (content file) goes.0 w goes.2 s t goes.3) h
