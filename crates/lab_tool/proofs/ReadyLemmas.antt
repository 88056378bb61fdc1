-- How `why` for an audit ends, and that it has one answer.
use Rattle.std.proofs.Common.{◌≡◌, ◌≢◌, ◌<◌, ◌≤◌, ◌*◌, ℕ, zero, suc, List, ◌++◌, length, Option, Some, None, refl, sym, ap, subst, ◌∙◌, inl, inr, arith, codes}
use Rattle.label_lattice.specs.declared.label.Label.{Label}
use Rattle.label_lattice.specs.Order.{IsOrder}
use Rattle.mit_syntax.specs.Program.{Syntax}
use Rattle.timing_types.specs.Labelled.{LabelledProgram}
use Rattle.parse_laws.proofs.Meant.{program_order}
use Rattle.label_code.specs.Shaped.{Code}
use Rattle.code_lower.specs.Lowered.{lowered}
use Rattle.history_bound.specs.Over.{AnyHistory, history_made}
use Rattle.start_file.specs.Starts.{StartValue}
use Rattle.leak_audit.specs.Agreement.{starts_of}
use Rattle.leak_audit.specs.declared.report.AuditFault.{AuditFault}
use Rattle.leak_audit.specs.declared.report.AuditFault.TheVariants as fault
use Rattle.leak_audit.proofs.Once as audit
use Rattle.tool_texts.specs.declared.status.Status.{Status}
use Rattle.tool_texts.specs.declared.status.Status.TheVariants as status
use Rattle.tool_texts.specs.Texts.{number_line}
use Rattle.tool_texts.specs.Reports.{unfinished_line}
use Rattle.tool_stages.specs.declared.envs.Environment.{Environment}
use Rattle.tool_stages.specs.Content.{Content, IsKnown}
use Rattle.tool_stages.specs.Envs.{environment, AuditFaultsIn}
use Rattle.tool_stages.specs.Goes.{CanBeAudited, CanLower, IsTypable, OfObserver}
use Rattle.tool_stages.specs.Stages.{Then, Reads, Observes, Types, HasImage, StartsAre}
use Rattle.tool_stages.proofs.AgreeLemmas.{all_halt}
use Rattle.tool_stages.proofs.GoesLemmas.{then_goes, then_goes_from}
use Rattle.tool_stages.proofs.OneFirst.{one_observer}
use Rattle.tool_stages.proofs.OneLemmas.{Same, then_one, one_list_of_starts, one_program, one_typed}
use Rattle.audit_stage.proofs.Once.{not_fault}
use Rattle.lab_runs.specs.Labels.{UnnamedStops, observer_option}
use Rattle.lab_runs.proofs.NameLemmas.{one_unnamed_stop, unnamed_goes}
use Rattle.lab_why.specs.Answers.{ReasonStops}
use Rattle.lab_why.specs.Faulty.{WhyStops}
use Rattle.lab_why.specs.Reasons.{HasReason}
use Rattle.lab_why.specs.Starts.{StartsStop}
use Rattle.lab_why.proofs.FaultLemmas.{why_goes, why_one}
use Rattle.lab_why.proofs.OneReason.{one_reason}
use Rattle.lab_ready.specs.Complete.{CanReady}
use Rattle.lab_ready.specs.Answer.{LongStops, FaultTold, RefusalTold, refusal_status, AuditTold, IsRest, IsReadyAnswer, most_instructions}
use Rattle.lab_ready.specs.Budget.{MoreTold, TriedTold, BudgetTold}
use Rattle.lab_tool.proofs.StartsLemmas.{either, either_one, either_goes}
use Rattle.lab_tool.proofs.WhyLemmas.{is_typable, reason_stops}

same_fault : (e : Environment) (q : LabelledProgram) (o t : ℕ) (ss : List StartValue) (f g : AuditFault) → AuditFaultsIn e q o t ss f
    → AuditFaultsIn e q o t ss g → f ≢ fault.Memory → g ≢ fault.Memory → f ≡ g
same_fault e q o t ss f g h k n m =
    audit.same_fault (environment e q.program.order) AnyHistory q o t (starts_of history_made q.program.order ss) f g h k n m

-- ---- what is told of more budget

more_not_memory : (t : ℕ) (More : List ℕ → Type 0) (f : AuditFault) (x : List ℕ) → MoreTold t More f x → f ≢ fault.Memory
more_not_memory t More f x h e = subst (λ (z : AuditFault). MoreTold t More z x) e h

more_one : (t : ℕ) (More : List ℕ → Type 0) (f : AuditFault) (x y : List ℕ) → (More x → More y → x ≡ y) → MoreTold t More f x → MoreTold t More f y → x ≡ y
more_one t More (fault.Disagree run what) x y one h k = h ∙ sym k
more_one t More (fault.Unfinished run cycle) x y one h k = one h k
more_one t More (fault.TooMuch count) x y one h k = h ∙ sym k
more_one t More fault.Memory x y one h k = absurd h

tried_one : (e : Environment) (q : LabelledProgram) (o : ℕ) (ss : List StartValue) (t : ℕ) (More : List ℕ → Type 0) (x y : List ℕ)
    → (More x → More y → x ≡ y) → TriedTold e q o ss t More x → TriedTold e q o ss t More y → x ≡ y
tried_one e q o ss t More x y one (inl h) (inl k) = h.2 ∙ sym k.2
tried_one e q o ss t More x y one (inl h) (inr k) = absurd (more_not_memory t More k.0 y k.2 (not_fault e q o t ss h.0 k.0 h.1 k.1))
tried_one e q o ss t More x y one (inr h) (inl k) = absurd (more_not_memory t More h.0 x h.2 (not_fault e q o t ss k.0 h.0 k.1 h.1))
tried_one e q o ss t More x y one (inr h) (inr k) =
    let same : k.0 ≡ h.0 =
    same_fault e q o t ss k.0 h.0 k.1 h.1 (more_not_memory t More k.0 y k.2) (more_not_memory t More h.0 x h.2) in
    more_one t More h.0 x y one h.2 (subst (λ (z : AuditFault). MoreTold t More z y) same k.2)

budget_one : (e : Environment) (q : LabelledProgram) (o : ℕ) (ss : List StartValue) (n t : ℕ) (x y : List ℕ) → BudgetTold e q o ss n t x
    → BudgetTold e q o ss n t y → x ≡ y
budget_one e q o ss zero t x y h k = h ∙ sym k
budget_one e q o ss (suc n) t x y (inl h) (inl k) = h.1 ∙ sym k.1
budget_one e q o ss (suc n) t x y (inl h) (inr k) = absurd (omega (arith, h.0, k.0))
budget_one e q o ss (suc n) t x y (inr h) (inl k) = absurd (omega (arith, h.0, k.0))
budget_one e q o ss (suc n) t x y (inr h) (inr k) =
    tried_one e q o ss (t * 2) (λ z. BudgetTold e q o ss n (t * 2) z) x y (budget_one e q o ss n (t * 2) x y) h.1 k.1

-- ---- what is told of an audit

module _ (e : Environment) (t : ℕ) (q : LabelledProgram) (l : Label) (ss : List StartValue) where
  told_not_memory : (f : AuditFault) (x : List ℕ) → FaultTold e t q l ss f x → f ≢ fault.Memory
  told_not_memory f x h is = subst (λ (z : AuditFault). FaultTold e t q l ss z x) is h

  told_one : (f : AuditFault) (x y : List ℕ) → FaultTold e t q l ss f x → FaultTold e t q l ss f y → x ≡ y
  told_one (fault.Disagree run what) x y h k = h ∙ sym k
  told_one (fault.Unfinished run cycle) x y h k =
      h.2 ∙ ap (λ (z : List ℕ). unfinished_line run cycle ++ z) (budget_one e q l.number ss 4 t h.0 k.0 h.1 k.1) ∙ sym k.2
  told_one (fault.TooMuch count) x y h k = h ∙ sym k
  told_one fault.Memory x y h k = absurd h

  refusal_one : (s u : Status) (x y : List ℕ) → RefusalTold e t q l ss s x → RefusalTold e t q l ss u y → Same s u x y
  refusal_one s u x y h k =
      let same : k.0 ≡ h.0 = same_fault e q l.number t ss k.0 h.0 k.1 h.1 (told_not_memory k.0 y k.3) (told_not_memory h.0 x h.3) in
      let other : FaultTold e t q l ss h.0 y = subst (λ (z : AuditFault). FaultTold e t q l ss z y) same k.3 in
      (h.2 ∙ sym (k.2 ∙ ap refusal_status same), told_one h.0 x y h.3 other)

  audit_one : (s u : Status) (x y : List ℕ) → AuditTold e t q (Some l) ss s x → AuditTold e t q (Some l) ss u y → Same s u x y
  audit_one s u x y (inl h) (inl k) = refusal_one s u x y h k
  audit_one s u x y (inl h) (inr k) = absurd (told_not_memory h.0 x h.3 (not_fault e q l.number t ss k.0 h.0 k.1 h.1))
  audit_one s u x y (inr h) (inl k) = absurd (told_not_memory k.0 y k.3 (not_fault e q l.number t ss h.0 k.0 h.1 k.1))
  audit_one s u x y (inr h) (inr k) = (h.2.0 ∙ sym k.2.0, h.2.1 ∙ sym k.2.1)

observed_one : (e : Environment) (t : ℕ) (q : LabelledProgram) (o : Option Label) (ss : List StartValue) (s u : Status) (x y : List ℕ)
    → AuditTold e t q o ss s x → AuditTold e t q o ss u y → Same s u x y
observed_one e t q None ss s u x y h k = absurd h
observed_one e t q (Some l) ss s u x y h k = audit_one e t q l ss s u x y h k

-- ---- the stages

rest_one : (R : Type 0) (c : Option (Option (List ℕ))) (e : Environment) (t : ℕ) (p : Syntax) (q : LabelledProgram) (o : Option Label) (s u : Status)
    (x y : List ℕ) → (R → ⊥) → IsKnown c → IsRest R c e t p q o s x → IsRest R c e t p q o u y → Same s u x y
rest_one R c e t p q o s u x y n known =
    then_one (StartsStop R c p) (StartsAre c p) (λ ss. AuditTold e t q o ss) s u x y
    (λ h k. either_one c p known R s u x y n (either R c p s x h) (either R c p u y k))
    (λ ss v z are h. either_goes c p known R ss v z n are (either R c p v z h)) (one_list_of_starts c known p)
    (λ ss are h k. observed_one e t q o ss s u x y h k)

long_stops : (q : LabelledProgram) (s : Status) (t : List ℕ) → LongStops q s t → (s ≡ status.TooLong) × (200000 < length (lowered q).instrs)
    × (t ≡ number_line (codes "too long: image ") (length (lowered q).instrs) ++ most_instructions)
long_stops q status.Done t h = absurd h
long_stops q status.Refused t h = absurd h
long_stops q status.Syntax t h = absurd h
long_stops q status.Starts t h = absurd h
long_stops q status.Usage t h = absurd h
long_stops q status.ReadFault t h = absurd h
long_stops q status.WriteFault t h = absurd h
long_stops q status.TooLong t h = (refl, h.0, h.1)
long_stops q status.Budget t h = absurd h
long_stops q status.Disagree t h = absurd h
long_stops q status.Unfinished t h = absurd h
long_stops q status.Memory t h = absurd h
long_stops q status.Rejected t h = absurd h

long_goes : (q : LabelledProgram) (s : Status) (t : List ℕ) → length (lowered q).instrs ≤ 200000 → LongStops q s t → ⊥
long_goes q s t short h = let stop = long_stops q s t h in let long = stop.1 in omega (arith, long, short)

image_goes : (q : LabelledProgram) (code : Code) (s : Status) (t : List ℕ) → HasImage q code → LongStops q s t → ⊥
image_goes q code s t image h = long_goes q s t (subst (λ (z : Code). length z.instrs ≤ 200000) image.0 image.1) h

reason_goes : (c : Option (Option (List ℕ))) (p : Syntax) (s : Status) (t : List ℕ) → IsTypable p → ReasonStops c p s t → ⊥
reason_goes c p s t can h = (reason_stops c p s t h).1.refused.none can.0 can.1 can.2

typed_one : (c held : Option (Option (List ℕ))) (R : Type 0) (e : Environment) (t : ℕ) (p : Syntax) (o : Option Label) (s u : Status) (x y : List ℕ)
    → (R → ⊥) → IsKnown held → IsOrder p.order → (HasReason c p x → HasReason c p y → x ≡ y)
    → Then (ReasonStops c p) (Types p) (λ q. Then (LongStops q) (HasImage q) (λ code. IsRest R held e t p q o)) s x
    → Then (ReasonStops c p) (Types p) (λ q. Then (LongStops q) (HasImage q) (λ code. IsRest R held e t p q o)) u y → Same s u x y
typed_one c held R e t p o s u x y n known order same =
    then_one (ReasonStops c p) (Types p) (λ q. Then (LongStops q) (HasImage q) (λ code. IsRest R held e t p q o)) s u x y
    (λ h k. let one = reason_stops c p s x h in let other = reason_stops c p u y k in (one.0 ∙ sym other.0, same one.1 other.1))
    (λ q v z types h. reason_goes c p v z (is_typable p q types) h) (λ a b. one_typed p a b order)
    (λ q types. then_one (LongStops q) (HasImage q) (λ code. IsRest R held e t p q o) s u x y
    (λ h k. let one = long_stops q s x h in let other = long_stops q u y k in (one.0 ∙ sym other.0, one.2 ∙ sym other.2))
    (λ code v z image h. image_goes q code v z image h) (λ a b h k. h.0 ∙ sym k.0)
    (λ code image h k. rest_one R held e t p q o s u x y n known h k))

pub ready_once : (Rises : List ℕ → Type 0) (content : Content) (file starts observer : List ℕ) (e : Environment) (t : ℕ) (s u : Status) (x y : List ℕ)
    → (Rises file → ⊥) → (Rises starts → ⊥) → IsKnown (content file) → IsKnown (content starts)
    → IsReadyAnswer Rises content file starts observer e t s x → IsReadyAnswer Rises content file starts observer e t u y → Same s u x y
ready_once Rises content file starts observer e t s u x y n m known held =
    why_one s u x y (Rises file) (content file)
    (λ p. Then (UnnamedStops observer_option p.order (Some observer)) (Observes p.order (Some observer)) (λ o.
    Then (ReasonStops (content file) p) (Types p) (λ q. Then (LongStops q) (HasImage q) (λ code. IsRest (Rises starts) (content starts) e t p q o)))) n known
    (λ p order. then_one (UnnamedStops observer_option p.order (Some observer)) (Observes p.order (Some observer)) (λ o.
    Then (ReasonStops (content file) p) (Types p) (λ q. Then (LongStops q) (HasImage q) (λ code. IsRest (Rises starts) (content starts) e t p q o)))
    s u x y (one_unnamed_stop observer_option p.order (Some observer) s u x y)
    (λ o v z sees h. unnamed_goes observer_option p.order (Some observer) o v z sees h) (λ a b. one_observer p.order (Some observer) a b order)
    (λ o sees. typed_one (content file) (content starts) (Rises starts) e t p o s u x y m held order (one_reason (content file) p x y known order)))

-- ---- where an audit has a report, that is told

audit_done : (e : Environment) (t : ℕ) (q : LabelledProgram) (o : Option Label) (ss : List StartValue) (s : Status) (x : List ℕ)
    → OfObserver (λ l. CanBeAudited e t q l ss) o → AuditTold e t q o ss s x → s ≡ status.Done
audit_done e t q None ss s x k h = absurd h
audit_done e t q (Some l) ss s x k (inl h) =
    absurd (told_not_memory e t q l ss h.0 x h.3
    (audit.no_audit_fault (environment e q.program.order) AnyHistory q l.number t (starts_of history_made q.program.order ss) h.0 k.cut.agree
    (all_halt (environment e q.program.order) history_made q t ss k.halt) k.cut.few h.1))
audit_done e t q (Some l) ss s x k (inr h) = h.2.0

lower_done : (c held : Option (Option (List ℕ))) (R : Type 0) (e : Environment) (t : ℕ) (p : Syntax) (o : Option Label) (s : Status) (x : List ℕ)
    → (R → ⊥) → IsKnown held
    → CanLower p (λ q. (ss : List StartValue) × StartsAre held p ss × OfObserver (λ l. CanBeAudited e t q l ss) o)
    → Then (ReasonStops c p) (Types p) (λ q. Then (LongStops q) (HasImage q) (λ code. IsRest R held e t p q o)) s x → s ≡ status.Done
lower_done c held R e t p o s x n known can =
    then_goes (ReasonStops c p) (Types p) (λ q. Then (LongStops q) (HasImage q) (λ code. IsRest R held e t p q o)) s x
    (reason_goes c p s x can.0) (λ q types.
    let short = can.1 q types in
    then_goes (LongStops q) (HasImage q) (λ code. IsRest R held e t p q o) s x (long_goes q s x short.0) (λ code image.
    let ss = short.1.0 in
    then_goes_from (StartsStop R held p) (StartsAre held p) (λ ss. AuditTold e t q o ss) s x ss short.1.1 (one_list_of_starts held known p)
    (λ h. either_goes held p known R ss s x n short.1.1 (either R held p s x h)) (λ h. audit_done e t q o ss s x short.1.2 h)))

pub ready_done : (Rises : List ℕ → Type 0) (content : Content) (file starts observer : List ℕ) (e : Environment) (t : ℕ) (s : Status) (x : List ℕ)
    → (Rises file → ⊥) → (Rises starts → ⊥) → CanReady content file starts observer e t
    → IsReadyAnswer Rises content file starts observer e t s x → s ≡ status.Done
ready_done Rises content file starts observer e t s x n m can =
    let p = can.goes.0 in
    let o = can.goes.2 in
    then_goes_from (WhyStops (Rises file) (content file)) (Reads (content file))
    (λ p. Then (UnnamedStops observer_option p.order (Some observer)) (Observes p.order (Some observer)) (λ o.
    Then (ReasonStops (content file) p) (Types p) (λ q. Then (LongStops q) (HasImage q) (λ code. IsRest (Rises starts) (content starts) e t p q o)))) s x
    p can.goes.1 (one_program (content file) can.known) (why_goes (Rises file) (content file) p s x n can.known can.goes.1)
    (then_goes_from (UnnamedStops observer_option p.order (Some observer)) (Observes p.order (Some observer)) (λ o.
    Then (ReasonStops (content file) p) (Types p) (λ q. Then (LongStops q) (HasImage q) (λ code. IsRest (Rises starts) (content starts) e t p q o)))
    s x o can.goes.3 (λ a b. one_observer p.order (Some observer) a b (program_order _ p can.goes.1.spelled))
    (unnamed_goes observer_option p.order (Some observer) o s x can.goes.3)
    (lower_done (content file) (content starts) (Rises starts) e t p o s x m can.known_starts can.goes.4))
