-- There is one answer.
use Rattle.std.proofs.Common.{◌≡◌, ℕ, List, ◌++◌, Option, Some, None, inl, inr, refl, sym, ap, ◌∙◌, subst, codes}
use Rattle.tim_base.specs.Faults.{Rose}
use Rattle.label_lattice.specs.declared.label.Label.{Label}
use Rattle.mit_syntax.specs.Program.{Syntax}
use Rattle.timing_types.specs.Labelled.{LabelledProgram}
use Rattle.part_tlb.specs.declared.bank.Sharing.{Sharing}
use Rattle.part_tlb.specs.declared.bank.Sharing.TheVariants.{Partitioned, Shared}
use Rattle.start_file.specs.Starts.{StartValue}
use Rattle.sharp_count.specs.Count.{fitting}
use Rattle.leak_audit.specs.declared.report.AuditReport.{AuditReport}
use Rattle.leak_audit.specs.Report.{SameReport}
use Rattle.leak_classes.specs.Classes.{Classes}
use Rattle.leak_numbers.specs.Numbers.{AreNumbers}
use Rattle.leak_numbers.proofs.Lines.{one_text}
use Rattle.level_counts.specs.Begun.{memories_of}
use Rattle.tool_stages.specs.declared.envs.Environment.{Environment}
use Rattle.tool_texts.specs.declared.status.Status.{Status}
use Rattle.tool_texts.specs.declared.status.Status.TheVariants as status
use Rattle.tool_texts.specs.Texts.{number_line}
use Rattle.tool_texts.specs.Reports.{label_line, bound_line}
use Rattle.tool_stages.specs.Envs.{hardware_of}
use Rattle.tool_stages.proofs.OneLemmas.{Same, then_one}
use Rattle.lab_runs.specs.Shown.{Shown}
use Rattle.lab_runs.proofs.ShownLemmas.{not_both, from_one}
use Rattle.space_stage.specs.Given.{GivenValue, GivenIs, GivenStops}
use Rattle.space_stage.proofs.Once.{one_given, given_or_stop, one_given_stop}
use Rattle.space_starts.specs.Space.{SpaceValue}
use Rattle.space_leak.specs.Answer.{SpaceStops, HasSpaceLeak}
use Rattle.space_leak.proofs.Once.{one_space_leak}
use Rattle.machine_stage.specs.Lines.{machine_head, no_bound_line}
use Rattle.audit_stage.proofs.Once.{audit_stops, one_audit_stop, same_report, not_fault}
use Rattle.lab_bound.specs.Answer.{shown_head}
use Rattle.lab_bound.specs.Text.{sharp_of}
use Rattle.lab_bound.proofs.Single.{one_told, one_shared, one_own, same_shown_head}
use Rattle.space_leak.specs.Text.{class_lines, sizes_of}
use Rattle.lab_leak.specs.Answer.{HasLeak, HasTypedLeak, HasOpenLeak, HasLeakOf, sequences_in}
use Rattle.lab_leak.specs.Classes.{classes_of_runs}
use Rattle.lab_leak.specs.Complete.{HasOneLeak}
use Rattle.lab_leak.specs.Text.{HasCounts, TopBy, IsClassText, IsLeakText, IsOpenText, head_lines, sharp_line}
use Rattle.lab_leak.proofs.Answering.{leak_next}

same_head : (q : LabelledProgram) (l : Label) (t : ℕ) (r s : AuditReport) (sharp : Option ℕ) → SameReport r s
    → head_lines q.program.order l t r sharp ≡ head_lines q.program.order l t s sharp
same_head q l t r s sharp h =
    ap (λ z. number_line (codes "runs ") z ++ (label_line (codes "observer ") q.program.order l
    ++ (number_line (codes "budget ") t ++ (bound_line r.measures.base r.measures.exponent ++ sharp_line sharp)))) h.runs
    ∙ ap (λ z. number_line (codes "runs ") s.runs ++ (label_line (codes "observer ") q.program.order l
    ++ (number_line (codes "budget ") t ++ (bound_line z r.measures.exponent ++ sharp_line sharp)))) h.measures.base
    ∙ ap (λ z. number_line (codes "runs ") s.runs ++ (label_line (codes "observer ") q.program.order l
    ++ (number_line (codes "budget ") t ++ (bound_line s.measures.base z ++ sharp_line sharp)))) h.measures.exponent

one_counts : (q : LabelledProgram) (l : Label) (t : ℕ) (ss : List StartValue) (r s : AuditReport) (x y : List ℕ) → SameReport r s
    → HasCounts q l t ss r x → HasCounts q l t ss s y → x ≡ y
one_counts q l t ss r s x y same h k =
    let levels = one_told q l.number (memories_of ss) h.0 k.0 h.1 k.1 in
    let line : h.2 ≡ k.2 = one_shared q l.number t h.0 k.0 h.2 k.2 levels h.3 k.3 in
    let own : h.4 ≡ k.4 = one_own q l.number t (memories_of ss) h.4 k.4 h.5 k.5 in
    h.6 ∙ ap (λ z. (z ++ h.2) ++ h.4) (same_head q l t r s (fitting (sharp_of t h.0)) same)
    ∙ ap (λ z. (head_lines q.program.order l t s (fitting (sharp_of t z)) ++ h.2) ++ h.4) levels
    ∙ ap (λ z. (head_lines q.program.order l t s (fitting (sharp_of t k.0)) ++ z) ++ h.4) line
    ∙ ap (λ z. (head_lines q.program.order l t s (fitting (sharp_of t k.0)) ++ k.2) ++ z) own ∙ sym k.6

one_top : (sharing : Sharing) (q : LabelledProgram) (l : Label) (t : ℕ) (ss : List StartValue) (r s : AuditReport) (x y : List ℕ) → SameReport r s
    → TopBy sharing q l t ss r x → TopBy sharing q l t ss s y → x ≡ y
one_top Partitioned q l t ss r s x y same h k = one_counts q l t ss r s x y same h k
one_top Shared q l t ss r s x y same h k =
    h ∙ ap (λ z. z ++ no_bound_line) (same_shown_head q.program.order l t r s same) ∙ sym k

one_class_text : (q : LabelledProgram) (m n : ℕ) (k : Classes) (x y : List ℕ) → m ≡ n → IsClassText q m k x → IsClassText q n k y → x ≡ y
one_class_text q m n k x y same h j =
    let numbers : h.0 ≡ j.0 = one_text n (sizes_of k) h.0 j.0 (subst (λ z. AreNumbers z (sizes_of k) h.0) same h.1) j.1 in
    h.2 ∙ ap (λ z. z ++ class_lines q.program.declarations k.seen k.firsts) numbers ∙ sym j.2

one_leak_text : (e : Environment) (q : LabelledProgram) (l : Label) (t : ℕ) (ss : List StartValue) (r s : AuditReport) (k : Classes) (x y : List ℕ)
    → SameReport r s → IsLeakText e q l t ss r k x → IsLeakText e q l t ss s k y → x ≡ y
one_leak_text e q l t ss r s k x y same h j =
    let top : h.0 ≡ j.0 = one_top (hardware_of e).sharing q l t ss r s h.0 j.0 same h.1 j.1 in
    let rest : h.2 ≡ j.2 = one_class_text q r.runs s.runs k h.2 j.2 same.runs h.3 j.3 in
    h.4 ∙ ap (λ z. (machine_head e ++ h.0) ++ z) rest ∙ ap (λ z. (machine_head e ++ z) ++ j.2) top ∙ sym j.4

one_open_text : (e : Environment) (q : LabelledProgram) (l : Label) (t : ℕ) (r s : AuditReport) (k : Classes) (x y : List ℕ) → SameReport r s
    → IsOpenText e q l t r k x → IsOpenText e q l t s k y → x ≡ y
one_open_text e q l t r s k x y same h j =
    let rest : h.0 ≡ j.0 = one_class_text q r.runs s.runs k h.0 j.0 same.runs h.1 j.1 in
    h.2 ∙ ap (λ z. (machine_head e ++ shown_head q.program.order l t r) ++ z) rest
    ∙ ap (λ z. (machine_head e ++ z) ++ j.0) (same_shown_head q.program.order l t r s same) ∙ sym j.2

one_leak : (e : Environment) (t : ℕ) (q : LabelledProgram) (o : Option Label) (ss : List StartValue) (s u : Status) (x y : List ℕ) → HasLeak e t q o ss s x
    → HasLeak e t q o ss u y → Same s u x y
one_leak e t q None ss s u x y h k = absurd h
one_leak e t q (Some l) ss s u x y (inl h) (inl k) = one_audit_stop e t q l ss s u x y h k
one_leak e t q (Some l) ss s u x y (inl h) (inr k) = let a = audit_stops e t q l ss s x h in absurd (a.none (not_fault e q l.number t ss k.0 a.fault k.1 a.is))
one_leak e t q (Some l) ss s u x y (inr h) (inl k) = let a = audit_stops e t q l ss u y k in absurd (a.none (not_fault e q l.number t ss h.0 a.fault h.1 a.is))
one_leak e t q (Some l) ss s u x y (inr h) (inr k) = (
  h.2.0 ∙ sym k.2.0,
  one_leak_text e q l t ss h.0 k.0 (classes_of_runs (sequences_in e t q l.number ss)) x y
      (same_report e q l.number t ss h.0 k.0 h.1 k.1) h.2.1 k.2.1,
)

one_typed : (e : Environment) (t : ℕ) (q : LabelledProgram) (o : Option Label) (g : GivenValue) (s u : Status) (x y : List ℕ) → HasTypedLeak e t q o g s x
    → HasTypedLeak e t q o g u y → Same s u x y
one_typed e t q o (inl ss) s u x y h k = one_leak e t q o ss s u x y h k
one_typed e t q o (inr z) s u x y h k = one_space_leak e t q o z s u x y h k

-- texts below one head
one_below : (head a b x y : List ℕ) → a ≡ b → x ≡ head ++ a → y ≡ head ++ b → x ≡ y
one_below head a b x y same h k = h ∙ ap (λ z. head ++ z) same ∙ sym k

-- classes of a space exclude its stops
no_space_stop : (e : Environment) (t : ℕ) (q : LabelledProgram) (l : Label) (z : SpaceValue) (s : Status) (x y : List ℕ) → SpaceStops e t q l z s x
    → HasSpaceLeak e t q (Some l) z status.Done y → ⊥
no_space_stop e t q l z s x y h k =
    let same = one_space_leak e t q (Some l) z s status.Done x y (inl h) k in
    subst (λ v. SpaceStops e t q l z v x) same.0 h

one_open : (e : Environment) (t : ℕ) (x : Shown) (o : Option Label) (g : GivenValue) (s u : Status) (y z : List ℕ) → HasOpenLeak e t x o g s y
    → HasOpenLeak e t x o g u z → Same s u y z
one_open e t x None g s u y z h k = absurd h
one_open e t x (Some l) (inl ss) s u y z (inl h) (inl k) = one_audit_stop e t x.labelled l ss s u y z h k
one_open e t x (Some l) (inl ss) s u y z (inl h) (inr k) =
    let a = audit_stops e t x.labelled l ss s y h in
    absurd (a.none (not_fault e x.labelled l.number t ss k.0 a.fault k.1 a.is))
one_open e t x (Some l) (inl ss) s u y z (inr h) (inl k) =
    let a = audit_stops e t x.labelled l ss u z k in
    absurd (a.none (not_fault e x.labelled l.number t ss h.0 a.fault h.1 a.is))
one_open e t x (Some l) (inl ss) s u y z (inr h) (inr k) =
    let q = x.labelled in
    let text = one_open_text e q l t h.0 k.0 (classes_of_runs (sequences_in e t q l.number ss)) h.2.1.0 k.2.1.0
    (same_report e q l.number t ss h.0 k.0 h.1 k.1) h.2.1.1 k.2.1.1 in
    (h.2.0 ∙ sym k.2.0, one_below x.head h.2.1.0 k.2.1.0 y z text h.2.1.2 k.2.1.2)
one_open e t x (Some l) (inr v) s u y z (inl h) (inl k) = one_space_leak e t x.labelled (Some l) v s u y z (inl h) (inl k)
one_open e t x (Some l) (inr v) s u y z (inl h) (inr k) =
    absurd (no_space_stop e t x.labelled l v s y k.2.1.0 h (inr (k.0, k.1, (refl, k.2.1.1))))
one_open e t x (Some l) (inr v) s u y z (inr h) (inl k) =
    absurd (no_space_stop e t x.labelled l v u z h.2.1.0 k (inr (h.0, h.1, (refl, h.2.1.1))))
one_open e t x (Some l) (inr v) s u y z (inr h) (inr k) =
    let text = one_space_leak e t x.labelled (Some l) v status.Done status.Done h.2.1.0 k.2.1.0
    (inr (h.0, h.1, (refl, h.2.1.1))) (inr (k.0, k.1, (refl, k.2.1.1))) in
    (h.2.0 ∙ sym k.2.0, one_below x.head h.2.1.0 k.2.1.0 y z text.1 h.2.1.2 k.2.1.2)

one_leak_of : (e : Environment) (t : ℕ) (p : Syntax) (x : Shown) (o : Option Label) (g : GivenValue) (s u : Status) (y z : List ℕ)
    → HasLeakOf e t p x o g s y → HasLeakOf e t p x o g u z → Same s u y z
one_leak_of e t p x o g s u y z (inl h) (inl k) = one_typed e t x.labelled o g s u y z h.1 k.1
one_leak_of e t p x o g s u y z (inl h) (inr k) = absurd (not_both p x x h.0 k.0)
one_leak_of e t p x o g s u y z (inr h) (inl k) = absurd (not_both p x x k.0 h.0)
one_leak_of e t p x o g s u y z (inr h) (inr k) = one_open e t x o g s u y z h.1 k.1

pub one_leak_in_lab : HasOneLeak
one_leak_in_lab content before now file starts observer e t refused s u x y known known_starts one other h k =
    let rises = λ (name : List ℕ). Rose (before name) (now name) in
    from_one refused rises content file (Some observer) (leak_next (rises starts) (content starts) e t) s u x y one known
    (λ p r o code.
    then_one (GivenStops (rises starts) (content starts) p) (GivenIs (content starts) p) (λ g. HasLeakOf e t p r o g) s u x y
    (one_given_stop (content starts) known_starts p (rises starts) s u x y other)
    (λ g v z is. given_or_stop (content starts) known_starts p (rises starts) g v z other is) (one_given (content starts) known_starts p)
    (λ g is. one_leak_of e t p r o g s u x y)) h k
