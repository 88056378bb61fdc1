-- The text that is made is the answer, and what stops its making stops the command.
use Rattle.std.proofs.Common.{◌≡◌, ◌⊎◌, ℕ, List, [], ◌++◌, Option, Some, None, inl, inr, refl, ap, ◌∙◌, subst, append_assoc}
use Rattle.label_lattice.specs.declared.label.Label.{Label}
use Rattle.label_lattice.specs.Order.{Order}
use Rattle.mit_syntax.specs.Program.{Syntax}
use Rattle.timing_types.specs.Labelled.{LabelledProgram}
use Rattle.label_code.specs.Shaped.{Code}
use Rattle.start_file.specs.Starts.{StartValue}
use Rattle.leak_audit.specs.declared.report.AuditReport.{AuditReport}
use Rattle.sharp_count.specs.declared.count.LevelRuns.{LevelRuns}
use Rattle.level_counts.specs.Begun.{AreTold, memories_of}
use Rattle.tool_stages.specs.declared.envs.Environment.{Environment}
use Rattle.tool_texts.specs.declared.status.Status.{Status}
use Rattle.tool_texts.specs.declared.status.Status.TheVariants as status
use Rattle.tool_texts.specs.declared.stop.Stop.{Stop}
use Rattle.tool_texts.specs.Ends.{IsStop, EndsBy, Nothing, status_of, stop_text}
use Rattle.tool_texts.specs.Reports.{audit_lines}
use Rattle.tool_texts.proofs.EndLemmas.{broke_map, ends_done}
use Rattle.tool_stages.specs.Content.{Content}
use Rattle.tool_stages.specs.Goes.{CanBeAudited, OfObserver}
use Rattle.tool_stages.specs.Envs.{hardware_of, ReportsIn}
use Rattle.audit_stage.specs.Audited.{AuditStops}
use Rattle.audit_stage.proofs.Once.{audit_goes}
use Rattle.machine_stage.specs.Lines.{machine_head}
use Rattle.lab_runs.proofs.NamedChains.{prepared_done, prepares_no_fault}
use Rattle.lab_bound.specs.Text.{BoundPut, IsBoundText, SharedPut, IsSharedText, IsOwnText, EndPut, TextPut}
use Rattle.lab_bound.specs.Answer.{HasBound, HasCounts, TellsBy, IsBoundAnswer}
use Rattle.lab_bound.specs.Complete.{CanBound}

-- what comes after the stages
abbrev pub bound_next : Environment → ℕ → Syntax → LabelledProgram → Option Label → Code → List StartValue → Status → List ℕ → Type 0
bound_next e t p q o code ss = HasBound e t q o ss

-- five texts, one after another
chained : (old a b c d e x y z w v : List ℕ) → x ≡ old ++ a → y ≡ x ++ b → z ≡ y ++ c → w ≡ z ++ d → v ≡ w ++ e → v ≡ old ++ ((((a ++ b) ++ c) ++ d) ++ e)
chained old a b c d e x y z w v h k m n i =
    i ∙ ap (λ u. u ++ e) (n ∙ ap (λ u. u ++ d) (m ∙ ap (λ u. u ++ c) (k ∙ ap (λ u. u ++ b) h ∙ append_assoc old a b) ∙ append_assoc old (a ++ b) c)
    ∙ append_assoc old ((a ++ b) ++ c) d) ∙ append_assoc old (((a ++ b) ++ c) ++ d) e

-- what is told on a machine with partitions
pub counts_put : (t : ℕ) (q : LabelledProgram) (l : Label) (xs ss : List StartValue) (r : AuditReport) (levels found : List LevelRuns) (order : Order)
    (old audited x y z w : List ℕ) → xs ≡ ss → AreTold q l.number (memories_of xs) levels → order ≡ q.program.order
    → audited ≡ old ++ audit_lines order l t r → found ≡ levels → BoundPut order l.number t found audited x → SharedPut q l.number t found x y
    → TextPut (IsOwnText q l.number t (memories_of xs)) y z → EndPut q l.number z w → TextPut (HasCounts q l t ss r) old w
counts_put t q l xs ss r levels found order old audited x y z w same told is a e put shared own end =
    let rest = put.0 in
    let text : IsBoundText q.program.order l.number t levels rest =
    subst (λ (z : Order). IsBoundText z l.number t levels rest) is (subst (λ z. IsBoundText order l.number t z rest) e put.1) in
    let lines = audit_lines q.program.order l t r in (
      (((lines ++ rest) ++ shared.0) ++ own.0) ++ end.0,
      (
        levels,
        subst (λ (z : List StartValue). AreTold q l.number (memories_of z) levels) same told,
        rest,
        text,
        shared.0,
        subst (λ (w : List LevelRuns). IsSharedText q l.number t w shared.0) e shared.1,
        own.0,
        subst (λ (z : List StartValue). IsOwnText q l.number t (memories_of z) own.0) same own.1,
        end.0,
        end.1,
        refl,
      ),
      chained old lines rest shared.0 own.0 end.0 audited x y z w (a ∙ ap (λ (w : Order). old ++ audit_lines w l t r) is) put.2 shared.2 own.2 end.2,
    )

-- behind what stands in front
pub bound_tells : (e : Environment) (t : ℕ) (q : LabelledProgram) (l : Label) (ss : List StartValue) (r : AuditReport) (none head z : List ℕ)
    → ReportsIn e q l.number t ss r → none ≡ [] → head ≡ none ++ machine_head e → TextPut (TellsBy (hardware_of e).sharing q l t ss r) head z
    → HasBound e t q (Some l) ss status.Done z
bound_tells e t q l ss r none head z reports empty first put =
    inr (r, reports, (refl, put.0, put.1, put.2 ∙ ap (λ w. w ++ put.0) (first ∙ ap (λ w. w ++ machine_head e) empty)))

pub bound_stop : (e : Environment) (t : ℕ) (q : LabelledProgram) (l : Label) (ss : List StartValue) (s : Stop) → IsStop (AuditStops e t q l ss) s
    → IsStop (HasBound e t q (Some l) ss) s
bound_stop e t q l ss s h = broke_map (AuditStops e t q l ss) (HasBound e t q (Some l) ss) (status_of s) (stop_text s) (λ k. inl k) h

-- ---- no answer is a write fault

no_fault_in : (e : Environment) (t : ℕ) (q : LabelledProgram) (o : Option Label) (ss : List StartValue) (x : List ℕ)
    → HasBound e t q o ss status.WriteFault x → ⊥
no_fault_in e t q None ss x h = h
no_fault_in e t q (Some l) ss x (inl h) = h
no_fault_in e t q (Some l) ss x (inr (r, is, h)) = cc (h.0)

pub bound_no_fault : (Rises : List ℕ → Type 0) (content : Content) (file starts observer : List ℕ) (e : Environment) (t : ℕ) (x : List ℕ)
    → IsBoundAnswer Rises content file starts observer e t status.WriteFault x → ⊥
bound_no_fault Rises content file starts observer e t x =
    prepares_no_fault Rises content file observer (Rises starts) (content starts) (bound_next e t) x (λ p q o code ss. no_fault_in e t q o ss x)

-- ---- no answer to a program that is prepared is a read fault

pub no_read_in : (e : Environment) (t : ℕ) (q : LabelledProgram) (o : Option Label) (ss : List StartValue) (x : List ℕ)
    → HasBound e t q o ss status.ReadFault x → ⊥
no_read_in e t q None ss x h = h
no_read_in e t q (Some l) ss x (inl h) = h
no_read_in e t q (Some l) ss x (inr (r, is, h)) = cc (h.0)

-- ---- what can be done is done

bound_done : (e : Environment) (t : ℕ) (q : LabelledProgram) (o : Option Label) (ss : List StartValue) (s : Status) (x : List ℕ)
    → OfObserver (λ l. CanBeAudited e t q l ss) o → HasBound e t q o ss s x → s ≡ status.Done
bound_done e t q None ss s x k h = absurd h
bound_done e t q (Some l) ss s x k (inl h) = absurd (audit_goes e t q l ss s x k h)
bound_done e t q (Some l) ss s x k (inr h) = h.2.0

pub completes : (old new : Option (List ℕ)) (Rises : List ℕ → Type 0) (content : Content) (file starts observer : List ℕ) (e : Environment) (t : ℕ)
    (r : Status) (Rose : Type 0) →
    EndsBy old new Nothing (IsBoundAnswer Rises content file starts observer e t) r → (r ≡ status.WriteFault → Rose) →
    CanBound content file starts observer e t → (Rises file → ⊥) → (Rises starts → ⊥) → (Rose → ⊥) → (r ≡ status.Done) ⊎ (r ≡ status.Memory)
completes old new Rises content file starts observer e t r Rose ends write can one other n =
    ends_done old new Nothing (IsBoundAnswer Rises content file starts observer e t) r ends (λ w. n (write w))
    (λ x h. prepared_done r x Rises content file observer (Rises starts) (content starts)
    (λ q o ss. OfObserver (λ l. CanBeAudited e t q l ss) o) (bound_next e t)
    one can.known other can.known_starts can.goes (λ p q o code ss good next. bound_done e t q o ss r x good next) h)
