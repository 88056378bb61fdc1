-- The text that is made is the answer, and what stops its making stops the command.
use Rattle.std.proofs.Common.{◌≡◌, ◌⊎◌, ℕ, List, Option, Some, None, inl, inr}
use Rattle.label_lattice.specs.declared.label.Label.{Label}
use Rattle.mit_syntax.specs.Program.{Syntax}
use Rattle.timing_types.specs.Labelled.{LabelledProgram}
use Rattle.label_code.specs.Shaped.{Code}
use Rattle.start_file.specs.Starts.{StartValue}
use Rattle.first_front.specs.declared.interval.Interval.{Interval}
use Rattle.leak_audit.specs.declared.report.AuditReport.{AuditReport}
use Rattle.tool_stages.specs.declared.envs.Environment.{Environment}
use Rattle.tool_texts.specs.declared.status.Status.{Status}
use Rattle.tool_texts.specs.declared.status.Status.TheVariants as status
use Rattle.tool_texts.specs.declared.stop.Stop.{Stop}
use Rattle.tool_texts.specs.Ends.{IsStop, EndsBy, Nothing, status_of, stop_text}
use Rattle.tool_texts.proofs.EndLemmas.{broke_map, ends_done}
use Rattle.tool_stages.specs.Content.{Content}
use Rattle.tool_stages.specs.Goes.{CanBeAudited, OfObserver}
use Rattle.tool_stages.specs.Envs.{ReportsIn}
use Rattle.audit_stage.specs.Audited.{AuditStops}
use Rattle.audit_stage.proofs.Once.{audit_goes}
use Rattle.lab_runs.proofs.NamedChains.{prepared_done, prepares_no_fault}
use Rattle.lab_tune.specs.Answer.{BestIn, FewStops, HasTune, TuneStops, IsTuneAnswer}
use Rattle.lab_tune.specs.Complete.{CanTune, CanBeTuned}

-- what comes after the stages
abbrev pub tune_next : Environment → ℕ → ℕ → Option ℕ → Syntax → LabelledProgram → Option Label → Code → List StartValue → Status → List ℕ → Type 0
tune_next e t mark bits p q o code ss = HasTune e t mark bits q o ss

pub audit_stop : (e : Environment) (t mark : ℕ) (bits : Option ℕ) (q : LabelledProgram) (l : Label) (ss : List StartValue) (s : Stop)
    → IsStop (AuditStops e t q l ss) s
    → IsStop (HasTune e t mark bits q (Some l) ss) s
audit_stop e t mark bits q l ss s h = broke_map (AuditStops e t q l ss) (HasTune e t mark bits q (Some l) ss) (status_of s) (stop_text s) (λ k. inl k) h

pub tune_stop : (e : Environment) (t mark : ℕ) (bits : Option ℕ) (q : LabelledProgram) (l : Label) (ss : List StartValue) (r : AuditReport) (s : Stop)
    → ReportsIn e q l.number t ss r → IsStop (TuneStops e t q l.number mark ss) s → IsStop (HasTune e t mark bits q (Some l) ss) s
tune_stop e t mark bits q l ss r s told h =
    broke_map (TuneStops e t q l.number mark ss) (HasTune e t mark bits q (Some l) ss) (status_of s) (stop_text s) (λ k. inr (r, told, inl k)) h

pub few_stop : (e : Environment) (t mark : ℕ) (bits : Option ℕ) (q : LabelledProgram) (l : Label) (ss : List StartValue) (r : AuditReport)
    (best : List Interval) (s : Stop) → ReportsIn e q l.number t ss r → BestIn e t q l.number mark ss best
    → IsStop (FewStops e t q l.number mark bits ss) s → IsStop (HasTune e t mark bits q (Some l) ss) s
few_stop e t mark bits q l ss r best s told are h =
    broke_map (FewStops e t q l.number mark bits ss) (HasTune e t mark bits q (Some l) ss) (status_of s) (stop_text s)
    (λ k. inr (r, told, inr (best, are, inl k))) h

-- ---- no answer is a write fault

few_no_fault_in : (e : Environment) (t o mark : ℕ) (bits : Option ℕ) (q : LabelledProgram) (ss : List StartValue) (x : List ℕ)
    → FewStops e t q o mark bits ss status.WriteFault x → ⊥
few_no_fault_in e t o mark None q ss x h = h
few_no_fault_in e t o mark (Some n) q ss x h = h

no_fault_in : (e : Environment) (t mark : ℕ) (bits : Option ℕ) (q : LabelledProgram) (o : Option Label) (ss : List StartValue) (x : List ℕ)
    → HasTune e t mark bits q o ss status.WriteFault x → ⊥
no_fault_in e t mark bits q None ss x h = h
no_fault_in e t mark bits q (Some l) ss x (inl h) = h
no_fault_in e t mark bits q (Some l) ss x (inr (r, told, inl h)) = h
no_fault_in e t mark bits q (Some l) ss x (inr (r, told, inr (best, are, inl h))) = few_no_fault_in e t l.number mark bits q ss x h
no_fault_in e t mark bits q (Some l) ss x (inr (r, told, inr (best, are, inr (is, some, h)))) = cc (h.0)

pub tune_no_fault : (Rises : List ℕ → Type 0) (content : Content) (file starts observer : List ℕ) (e : Environment) (t mark : ℕ) (bits : Option ℕ) (x : List ℕ)
    → IsTuneAnswer Rises content file starts observer e t mark bits status.WriteFault x → ⊥
tune_no_fault Rises content file starts observer e t mark bits x =
    prepares_no_fault Rises content file observer (Rises starts) (content starts) (tune_next e t mark bits) x
    (λ p q o code ss. no_fault_in e t mark bits q o ss x)

-- ---- no answer to a program that is prepared is a read fault

few_no_read_in : (e : Environment) (t o mark : ℕ) (bits : Option ℕ) (q : LabelledProgram) (ss : List StartValue) (x : List ℕ)
    → FewStops e t q o mark bits ss status.ReadFault x → ⊥
few_no_read_in e t o mark None q ss x h = h
few_no_read_in e t o mark (Some n) q ss x h = h

pub no_read_in : (e : Environment) (t mark : ℕ) (bits : Option ℕ) (q : LabelledProgram) (o : Option Label) (ss : List StartValue) (x : List ℕ)
    → HasTune e t mark bits q o ss status.ReadFault x → ⊥
no_read_in e t mark bits q None ss x h = h
no_read_in e t mark bits q (Some l) ss x (inl h) = h
no_read_in e t mark bits q (Some l) ss x (inr (r, told, inl h)) = h
no_read_in e t mark bits q (Some l) ss x (inr (r, told, inr (best, are, inl h))) = few_no_read_in e t l.number mark bits q ss x h
no_read_in e t mark bits q (Some l) ss x (inr (r, told, inr (best, are, inr (is, some, h)))) = cc (h.0)

-- ---- what can be done is done

tune_goes : (e : Environment) (t o mark : ℕ) (bits : Option ℕ) (q : LabelledProgram) (ss : List StartValue) (s : Status) (x : List ℕ)
    → CanBeTuned e t q o mark bits ss → TuneStops e t q o mark ss s x → ⊥
tune_goes e t o mark bits q ss status.Refused x can h = h.0 can.number
tune_goes e t o mark bits q ss status.TooLong x can h = can.ends h.1
tune_goes e t o mark bits q ss _ x can h = h

few_goes : (e : Environment) (t o mark : ℕ) (bits : Option ℕ) (q : LabelledProgram) (ss : List StartValue) (s : Status) (x : List ℕ)
    → CanBeTuned e t q o mark bits ss → FewStops e t q o mark bits ss s x → ⊥
few_goes e t o mark None q ss s x can h = h
few_goes e t o mark (Some n) q ss status.Refused x can h = can.some h.0
few_goes e t o mark (Some n) q ss _ x can h = h

tune_done : (e : Environment) (t mark : ℕ) (bits : Option ℕ) (q : LabelledProgram) (o : Option Label) (ss : List StartValue) (s : Status) (x : List ℕ)
    → OfObserver (λ l. CanBeAudited e t q l ss × CanBeTuned e t q l mark bits ss) o → HasTune e t mark bits q o ss s x → s ≡ status.Done
tune_done e t mark bits q None ss s x k h = absurd h
tune_done e t mark bits q (Some l) ss s x k (inl h) = absurd (audit_goes e t q l ss s x k.0 h)
tune_done e t mark bits q (Some l) ss s x k (inr (r, told, inl h)) = absurd (tune_goes e t l.number mark bits q ss s x k.1 h)
tune_done e t mark bits q (Some l) ss s x k (inr (r, told, inr (best, are, inl h))) = absurd (few_goes e t l.number mark bits q ss s x k.1 h)
tune_done e t mark bits q (Some l) ss s x k (inr (r, told, inr (best, are, inr (is, some, h)))) = h.0

pub completes : (old new : Option (List ℕ)) (Rises : List ℕ → Type 0) (content : Content) (file starts observer : List ℕ) (e : Environment) (t mark : ℕ)
    (bits : Option ℕ) (r : Status) (Rose : Type 0) →
    EndsBy old new Nothing (IsTuneAnswer Rises content file starts observer e t mark bits) r → (r ≡ status.WriteFault → Rose) →
    CanTune content file starts observer e t mark bits → (Rises file → ⊥) → (Rises starts → ⊥) → (Rose → ⊥) → (r ≡ status.Done) ⊎ (r ≡ status.Memory)
completes old new Rises content file starts observer e t mark bits r Rose ends write can one other n =
    ends_done old new Nothing (IsTuneAnswer Rises content file starts observer e t mark bits) r ends (λ w. n (write w))
    (λ x. prepared_done r x Rises content file observer (Rises starts) (content starts)
    (λ q o ss. OfObserver (λ l. CanBeAudited e t q l ss × CanBeTuned e t q l mark bits ss) o) (tune_next e t mark bits)
    one can.known other can.known_starts can.goes (λ p q o code ss. tune_done e t mark bits q o ss r x))
