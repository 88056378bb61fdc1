-- How `why` with starts ends, and that it has one answer.
use Rattle.std.proofs.Common.{◌≡◌, ℕ, List, ◌++◌, Option, Err, refl, sym, ap, subst, ◌∙◌, inl, inr}
use Rattle.std.specs.Prelude.{◌⊎◌}
use Rattle.mit_syntax.specs.Program.{Syntax}
use Rattle.start_file.specs.declared.fault.StartFault.{StartFault}
use Rattle.start_file.specs.Starts.{StartValue, Gives}
use Rattle.start_file.proofs.OneAnswer.{one_answer}
use Rattle.start_faults.specs.Told.{TellsStarts}
use Rattle.start_faults.proofs.OneTold.{one_text}
use Rattle.tool_texts.specs.declared.status.Status.{Status}
use Rattle.tool_texts.specs.declared.status.Status.TheVariants as status
use Rattle.tool_stages.specs.Stages.{Then, Reads, Types, HasStartFault, StartsAre, StartStops}
use Rattle.tool_stages.specs.Content.{Content, IsKnown}
use Rattle.tool_stages.specs.Goes.{IsTypable}
use Rattle.tool_stages.proofs.GoesLemmas.{one_told, starts_go}
use Rattle.tool_stages.proofs.OneLemmas.{Same, one_program, one_list_of_starts, one_start_stop}
use Rattle.lab_why.specs.Answers.{ReasonStops}
use Rattle.lab_why.specs.Faulty.{WhyStops}
use Rattle.lab_why.specs.Reasons.{HasReason}
use Rattle.lab_why.specs.Starts.{HasStartsTold, StartsStop, HasTaken, IsTaken, IsStartsAnswer}
use Rattle.lab_why.proofs.FaultLemmas.{why_goes, why_one}
use Rattle.lab_why.proofs.OneReason.{one_reason}
use Rattle.lab_tool.specs.Complete.{WhyStartsGoes}
use Rattle.lab_tool.proofs.WhyLemmas.{is_typable, reason_stops, then_ends}

-- a stop is a fault of the starts, or one that the tool tells too
abbrev pub Either : Type 0 → Option (Option (List ℕ)) → Syntax → Status → List ℕ → Type 0
Either R c p s t = ((s ≡ status.Starts) × HasStartsTold c p t) ⊎ ((s ≡ status.Starts → ⊥) × StartStops R c p s t)

pub either : (R : Type 0) (c : Option (Option (List ℕ))) (p : Syntax) (s : Status) (t : List ℕ) → StartsStop R c p s t → Either R c p s t
either R c p status.Done t h = absurd h
either R c p status.Refused t h = absurd h
either R c p status.Syntax t h = absurd h
either R c p status.Starts t h = inl (refl, h)
either R c p status.Usage t h = absurd h
either R c p status.ReadFault t h = inr ((λ e. cc), h)
either R c p status.WriteFault t h = absurd h
either R c p status.TooLong t h = inr ((λ e. cc), h)
either R c p status.Budget t h = absurd h
either R c p status.Disagree t h = absurd h
either R c p status.Unfinished t h = absurd h
either R c p status.Memory t h = absurd h
either R c p status.Rejected t h = absurd h

module _ (c : Option (Option (List ℕ))) (p : Syntax) (known : IsKnown c) where
  told_one : (t x : List ℕ) → HasStartsTold c p t → HasStartsTold c p x → t ≡ x
  told_one t x h k =
      let f = h.stops in
      let g = k.stops in
      let bytes : f.bytes ≡ g.bytes = one_told c f.bytes g.bytes known f.are g.are in
      let same : Err f.fault ≡ Err g.fault =
      one_answer p g.bytes (Err f.fault) (Err g.fault) (subst (λ (z : List ℕ). Gives p z (Err f.fault)) bytes f.is) g.is in
      let fault : f.fault ≡ g.fault = cc in
      let line : h.line ≡ k.line = (one_start_stop c known p ⊥ status.Starts status.Starts h.line k.line (λ e. e) f g).1 in
      let tells : TellsStarts p g.bytes g.fault h.more =
      subst (λ (z : StartFault). TellsStarts p g.bytes z h.more) fault (subst (λ (z : List ℕ). TellsStarts p z f.fault h.more) bytes h.tells) in
      let more : h.more ≡ k.more = one_text p g.bytes g.fault h.more k.more tells k.tells in
      h.text ∙ ap (λ (z : List ℕ). z ++ h.more) line ∙ ap (λ (z : List ℕ). k.line ++ z) more ∙ sym k.text

  pub either_one : (R : Type 0) (s u : Status) (t x : List ℕ) → (R → ⊥) → Either R c p s t → Either R c p u x → Same s u t x
  either_one R s u t x n (inl h) (inl k) = (h.0 ∙ sym k.0, told_one t x h.1 k.1)
  either_one R s u t x n (inl h) (inr k) =
      absurd (k.0 (sym (one_start_stop c known p R status.Starts u h.1.line x n h.1.stops k.1).0))
  either_one R s u t x n (inr h) (inl k) =
      absurd (h.0 (one_start_stop c known p R s status.Starts t k.1.line n h.1 k.1.stops).0)
  either_one R s u t x n (inr h) (inr k) = one_start_stop c known p R s u t x n h.1 k.1

  -- starts that are taken do not stop
  pub either_goes : (R : Type 0) (ss : List StartValue) (s : Status) (t : List ℕ) → (R → ⊥) → StartsAre c p ss → Either R c p s t → ⊥
  either_goes R ss s t n are (inl h) = starts_go R c p ss status.Starts h.1.line n known are h.1.stops
  either_goes R ss s t n are (inr h) = starts_go R c p ss s t n known are h.1

  taken_one : (R : Type 0) (s u : Status) (t x : List ℕ) → (R → ⊥) → IsTaken R c p s t → IsTaken R c p u x → Same s u t x
  taken_one R s u t x n (inl h) (inl k) = either_one R s u t x n (either R c p s t h) (either R c p u x k)
  taken_one R s u t x n (inl h) (inr k) = absurd (either_goes R k.0 s t n k.1 (either R c p s t h))
  taken_one R s u t x n (inr h) (inl k) = absurd (either_goes R h.0 u x n h.1 (either R c p u x k))
  taken_one R s u t x n (inr h) (inr k) =
      let same : k.0 ≡ h.0 = one_list_of_starts c known p k.0 h.0 k.1 h.1 in
      let other : HasTaken p h.0 u x = subst (λ (z : List StartValue). HasTaken p z u x) same k.2 in
      (h.2.0 ∙ sym other.0, h.2.1 ∙ sym other.1)

  -- taken starts are done
  taken_done : (R : Type 0) (ss : List StartValue) (s : Status) (t : List ℕ) → (R → ⊥) → StartsAre c p ss → IsTaken R c p s t → s ≡ status.Done
  taken_done R ss s t n are (inl h) = absurd (either_goes R ss s t n are (either R c p s t h))
  taken_done R ss s t n are (inr h) = h.2.0

  -- a file that is refused is told as that
  taken_not : (R : Type 0) (line : List ℕ) (s : Status) (t : List ℕ) → (R → ⊥) → HasStartFault c p line → IsTaken R c p s t → s ≡ status.Starts
  taken_not R line s t n fault (inl h) = by (either R c p s t h)
    where
      by : Either R c p s t → s ≡ status.Starts
      by (inl k) = k.0
      by (inr k) = (one_start_stop c known p R s status.Starts t line n k.1 fault).0
  taken_not R line s t n fault (inr h) = absurd (starts_go R c p h.0 status.Starts line n known h.1 fault)

-- the program is refused, or its starts are told
abbrev Judged : Option (Option (List ℕ)) → Type 0 → Option (Option (List ℕ)) → Syntax → Status → List ℕ → Type 0
Judged c R held p = Then (ReasonStops c p) (Types p) (λ q. IsTaken R held p)

judged_one : (c held : Option (Option (List ℕ))) (R : Type 0) (p : Syntax) (s u : Status) (t x : List ℕ) → (R → ⊥) → IsKnown held
    → (HasReason c p t → HasReason c p x → t ≡ x) → Judged c R held p s t → Judged c R held p u x → Same s u t x
judged_one c held R p s u t x n known same (inl h) (inl k) =
    let one = reason_stops c p s t h in
    let other = reason_stops c p u x k in
    (one.0 ∙ sym other.0, same one.1 other.1)
judged_one c held R p s u t x n known same (inl h) (inr k) =
    let can = is_typable p k.0 k.1 in
    absurd ((reason_stops c p s t h).1.refused.none can.0 can.1 can.2)
judged_one c held R p s u t x n known same (inr h) (inl k) =
    let can = is_typable p h.0 h.1 in
    absurd ((reason_stops c p u x k).1.refused.none can.0 can.1 can.2)
judged_one c held R p s u t x n known same (inr h) (inr k) = taken_one held p known R s u t x n h.2 k.2

pub starts_once : (Rises : List ℕ → Type 0) (content : Content) (file starts : List ℕ) (s u : Status) (t x : List ℕ) → (Rises file → ⊥)
    → (Rises starts → ⊥) → IsKnown (content file) → IsKnown (content starts) → IsStartsAnswer Rises content file starts s t
    → IsStartsAnswer Rises content file starts u x → Same s u t x
starts_once Rises content file starts s u t x n m known held h k =
    why_one s u t x (Rises file) (content file) (λ p. Judged (content file) (Rises starts) (content starts) p) n known
    (λ p o. judged_one (content file) (content starts) (Rises starts) p s u t x m held (one_reason (content file) p t x known o)) h k

-- ---- ends

typed_goes : (c held : Option (Option (List ℕ))) (R : Type 0) (p : Syntax) (s e : Status) (t : List ℕ) → IsTypable p → (IsTaken R held p s t → s ≡ e)
    → Judged c R held p s t → s ≡ e
typed_goes c held R p s e t can f (inl h) =
    let stop = reason_stops c p s t h in
    absurd (stop.1.refused.none can.0 can.1 can.2)
typed_goes c held R p s e t can f (inr h) = f h.2

untyped_ends : (c held : Option (Option (List ℕ))) (R : Type 0) (p : Syntax) (s : Status) (t : List ℕ) → (IsTypable p → ⊥)
    → Judged c R held p s t → s ≡ status.Refused
untyped_ends c held R p s t not (inl h) = (reason_stops c p s t h).0
untyped_ends c held R p s t not (inr h) = absurd (not (is_typable p h.0 h.1))

module _ (Rises : List ℕ → Type 0) (content : Content) (file starts : List ℕ) (s : Status) (t : List ℕ) (n : Rises file → ⊥) (m : Rises starts → ⊥)
    (known : IsKnown (content file)) (held : IsKnown (content starts)) where
  program_ends : (e : Status) (p : Syntax) → Reads (content file) p → (Judged (content file) (Rises starts) (content starts) p s t → s ≡ e)
      → IsStartsAnswer Rises content file starts s t → s ≡ e
  program_ends e p reads f h =
      then_ends (WhyStops (Rises file) (content file)) (Reads (content file)) (λ p. Judged (content file) (Rises starts) (content starts) p) s e t
      p reads (one_program (content file) known) (why_goes (Rises file) (content file) p s t n known reads) f h

  goes_ends : (e : Status) → WhyStartsGoes (content file) (content starts) e → IsStartsAnswer Rises content file starts s t → s ≡ e
  goes_ends status.Done goes h =
      program_ends status.Done goes.0 goes.1 (typed_goes (content file) (content starts) (Rises starts) goes.0 s status.Done t goes.2
      (taken_done (content starts) goes.0 held (Rises starts) goes.3 s t m goes.4)) h
  goes_ends status.Starts goes h =
      program_ends status.Starts goes.0 goes.1 (typed_goes (content file) (content starts) (Rises starts) goes.0 s status.Starts t goes.2
      (taken_not (content starts) goes.0 held (Rises starts) goes.3 s t m goes.4)) h
  goes_ends status.Refused goes h =
      program_ends status.Refused goes.0 goes.1 (untyped_ends (content file) (content starts) (Rises starts) goes.0 s t goes.2) h
  goes_ends status.Syntax goes h = absurd goes
  goes_ends status.Usage goes h = absurd goes
  goes_ends status.ReadFault goes h = absurd goes
  goes_ends status.WriteFault goes h = absurd goes
  goes_ends status.TooLong goes h = absurd goes
  goes_ends status.Budget goes h = absurd goes
  goes_ends status.Disagree goes h = absurd goes
  goes_ends status.Unfinished goes h = absurd goes
  goes_ends status.Memory goes h = absurd goes
  goes_ends status.Rejected goes h = absurd goes

pub starts_ends : (Rises : List ℕ → Type 0) (content : Content) (file starts : List ℕ) (s e : Status) (t : List ℕ) → (Rises file → ⊥)
    → (Rises starts → ⊥) → IsKnown (content file) → IsKnown (content starts) → WhyStartsGoes (content file) (content starts) e
    → IsStartsAnswer Rises content file starts s t → s ≡ e
starts_ends Rises content file starts s e t n m known held goes h = goes_ends Rises content file starts s t n m known held e goes h
