-- The text that is made is the answer, and what stops its making stops the command.
use Rattle.std.proofs.Common.{◌≡◌, ◌⊎◌, ℕ, List, [], ◌++◌, Bool, Option, Some, None, inl, inr, refl, ap, ◌∙◌, subst, append_assoc}
use Rattle.label_lattice.specs.declared.label.Label.{Label}
use Rattle.label_lattice.specs.Order.{Order}
use Rattle.mit_syntax.specs.Program.{Syntax}
use Rattle.timing_types.specs.Labelled.{LabelledProgram}
use Rattle.label_code.specs.Shaped.{Code}
use Rattle.start_file.specs.Starts.{StartValue}
use Rattle.leak_audit.specs.declared.report.AuditReport.{AuditReport}
use Rattle.sharp_count.specs.declared.count.LevelRuns.{LevelRuns}
use Rattle.sharp_count.specs.Count.{fitting}
use Rattle.leak_classes.specs.Classes.{Classes}
use Rattle.leak_numbers.specs.Numbers.{AreNumbers, NumbersPut}
use Rattle.level_counts.specs.Begun.{AreTold, memories_of}
use Rattle.tool_stages.specs.declared.envs.Environment.{Environment}
use Rattle.tool_texts.specs.declared.status.Status.{Status}
use Rattle.tool_texts.specs.declared.status.Status.TheVariants as status
use Rattle.tool_texts.specs.declared.stop.Stop.{Stop}
use Rattle.tool_texts.specs.Ends.{IsStop, EndsBy, Nothing, status_of, stop_text}
use Rattle.tool_texts.proofs.EndLemmas.{broke_map, ends_done}
use Rattle.tool_stages.specs.Content.{Content}
use Rattle.tool_stages.specs.Goes.{CanBeAudited, OfObserver}
use Rattle.tool_stages.specs.Envs.{hardware_of, ReportsIn}
use Rattle.tool_stages.specs.Stages.{Then}
use Rattle.tool_stages.proofs.GoesLemmas.{then_goes_from}
use Rattle.lab_runs.specs.declared.least.LeastLabelled.{LeastLabelled}
use Rattle.lab_runs.specs.declared.least.LeastLabelled.TheVariants.{Accepted, Refused}
use Rattle.lab_runs.specs.Shown.{Shown}
use Rattle.lab_runs.proofs.ShownLemmas.{from_done, from_no_fault}
use Rattle.space_stage.specs.Given.{GivenValue, GivenIs, GivenStops}
use Rattle.space_stage.proofs.Once.{one_given, given_or_stop}
use Rattle.space_starts.specs.Space.{SpaceValue}
use Rattle.space_leak.specs.Answer.{SpaceStops, HasSpaceLeak}
use Rattle.space_leak.proofs.Once.{no_write_fault, no_read_fault}
use Rattle.audit_stage.specs.Audited.{AuditStops}
use Rattle.audit_stage.proofs.Once.{audit_goes}
use Rattle.machine_stage.specs.Lines.{machine_head}
use Rattle.lab_bound.specs.Answer.{shown_head}
use Rattle.lab_bound.specs.Text.{sharp_of, SharedPut, IsSharedText, IsOwnText, TextPut}
use Rattle.space_leak.specs.Text.{class_lines, sizes_of}
use Rattle.lab_leak.specs.Answer.{HasLeak, HasTypedLeak, HasOpenLeak, HasLeakOf, IsLeakAnswer, sequences_in}
use Rattle.lab_leak.specs.declared.sizes.ClassSizes.{ClassSizes}
use Rattle.lab_leak.specs.Classes.{AreSizes, classes_of_runs}
use Rattle.lab_leak.specs.Complete.{CanLeak}
use Rattle.lab_leak.specs.Text.{HasCounts, TopBy, IsClassText, IsLeakText, IsOpenText, head_lines}
use Rattle.lab_leak.specs.Views.{open_shown, LeakBy, IsOpenTold}

-- what comes after the stages
abbrev pub leak_next : Type 0 → Option (Option (List ℕ)) → Environment → ℕ → Syntax → Shown → Option Label → Code → Status → List ℕ → Type 0
leak_next Rose held e t p x o code = Then (GivenStops Rose held p) (GivenIs held p) (λ g. HasLeakOf e t p x o g)

-- the first lines on a machine with partitions
pub counts_put : (t : ℕ) (q : LabelledProgram) (l : Label) (xs ss : List StartValue) (r : AuditReport) (levels found : List LevelRuns) (order : Order)
    (count : Option ℕ) (old head x new : List ℕ) → xs ≡ ss → AreTold q l.number (memories_of xs) levels → order ≡ q.program.order → found ≡ levels
    → count ≡ fitting (sharp_of t found) → head ≡ old ++ head_lines order l t r count → SharedPut q l.number t found head x
    → TextPut (IsOwnText q l.number t (memories_of xs)) x new → TextPut (HasCounts q l t ss r) old new
counts_put t q l xs ss r levels found order count old head x new same told is e counted first put own =
    let top = head_lines q.program.order l t r (fitting (sharp_of t levels)) in
    let there : head ≡ old ++ top =
    first ∙ ap (λ (z : Order). old ++ head_lines z l t r count) is
    ∙ ap (λ z. old ++ head_lines q.program.order l t r z) (counted ∙ ap (λ z. fitting (sharp_of t z)) e) in
    let line : x ≡ old ++ (top ++ put.0) = put.2 ∙ ap (λ z. z ++ put.0) there ∙ append_assoc old top put.0 in (
      (top ++ put.0) ++ own.0,
      (
        levels,
        subst (λ (z : List StartValue). AreTold q l.number (memories_of z) levels) same told,
        put.0,
        subst (λ (z : List LevelRuns). IsSharedText q l.number t z put.0) e put.1,
        own.0,
        subst (λ (z : List StartValue). IsOwnText q l.number t (memories_of z) own.0) same own.1,
        refl,
      ),
      own.2 ∙ ap (λ z. z ++ own.0) line ∙ append_assoc old (top ++ put.0) own.0,
    )

-- what is told of the classes
class_put : (q : LabelledProgram) (runs size : ℕ) (k : Classes) (s : ClassSizes) (ws top two whole : List ℕ) → AreSizes k s → size ≡ runs → ws ≡ s.sizes.items
    → NumbersPut size ws top two → whole ≡ two ++ class_lines q.program.declarations k.seen k.firsts → TextPut (IsClassText q runs k) top whole
class_put q runs size k s ws top two whole are same sizes put rest =
    let lines = class_lines q.program.declarations k.seen k.firsts in
    let numbers : AreNumbers runs (sizes_of k) put.lines =
    subst (λ z. AreNumbers z (sizes_of k) put.lines) same (subst (λ z. AreNumbers size z put.lines) (sizes ∙ are.sizes) put.are) in
    (put.lines ++ lines, (put.lines, numbers, refl), rest ∙ ap (λ z. z ++ lines) put.put ∙ append_assoc top put.lines lines)

-- the lines one after another
pub leak_put : (e : Environment) (q : LabelledProgram) (l : Label) (t : ℕ) (ss : List StartValue) (r : AuditReport) (k : Classes) (s : ClassSizes) (size : ℕ)
    (ws none head top two whole : List ℕ) → AreSizes k s → size ≡ r.runs → ws ≡ s.sizes.items → none ≡ [] → head ≡ none ++ machine_head e
    → TextPut (TopBy (hardware_of e).sharing q l t ss r) head top → NumbersPut size ws top two
    → whole ≡ two ++ class_lines q.program.declarations k.seen k.firsts → IsLeakText e q l t ss r k whole
leak_put e q l t ss r k s size ws none head top two whole are runs sizes empty first shown put rest =
    let classes = class_put q r.runs size k s ws top two whole are runs sizes put rest in
    let heads : head ≡ machine_head e = first ∙ ap (λ z. z ++ machine_head e) empty in (
      shown.0,
      shown.1,
      classes.0,
      classes.1,
      classes.2 ∙ ap (λ z. z ++ classes.0) (shown.2 ∙ ap (λ z. z ++ shown.0) heads),
    )

-- the same of a refused program
pub open_put : (e : Environment) (q : LabelledProgram) (l : Label) (t : ℕ) (r : AuditReport) (k : Classes) (s : ClassSizes) (size : ℕ)
    (ws none head top two whole : List ℕ) → AreSizes k s → size ≡ r.runs → ws ≡ s.sizes.items → none ≡ [] → head ≡ none ++ machine_head e
    → top ≡ head ++ shown_head q.program.order l t r → NumbersPut size ws top two
    → whole ≡ two ++ class_lines q.program.declarations k.seen k.firsts → IsOpenText e q l t r k whole
open_put e q l t r k s size ws none head top two whole are runs sizes empty first shown put rest =
    let classes = class_put q r.runs size k s ws top two whole are runs sizes put rest in
    let heads : head ≡ machine_head e = first ∙ ap (λ z. z ++ machine_head e) empty in (
      classes.0,
      classes.1,
      classes.2 ∙ ap (λ z. z ++ classes.0) (shown ∙ ap (λ z. z ++ shown_head q.program.order l t r) heads),
    )

-- the lines of the classes of the runs from starts
abbrev pub lines_of : Environment → ℕ → LabelledProgram → Label → List StartValue → List ℕ
lines_of e t q l ss =
    class_lines q.program.declarations (classes_of_runs (sequences_in e t q l.number ss)).seen (classes_of_runs (sequences_in e t q l.number ss)).firsts

pub lines_at : (e : Environment) (t : ℕ) (q r : LabelledProgram) (l : Label) (xs ss : List StartValue) (two whole : List ℕ) → q ≡ r → xs ≡ ss
    → whole ≡ two ++ lines_of e t q l xs → whole ≡ two ++ lines_of e t r l ss
lines_at e t q r l xs ss two whole same are h = h ∙ ap (λ z. two ++ lines_of e t z l xs) same ∙ ap (λ z. two ++ lines_of e t r l z) are

pub leak_tells : (e : Environment) (t : ℕ) (q : LabelledProgram) (l : Label) (ss : List StartValue) (r : AuditReport) (x : List ℕ)
    → ReportsIn e q l.number t ss r → IsLeakText e q l t ss r (classes_of_runs (sequences_in e t q l.number ss)) x → HasLeak e t q (Some l) ss status.Done x
leak_tells e t q l ss r x reports text = inr (r, reports, (refl, text))

pub leak_stop : (e : Environment) (t : ℕ) (q : LabelledProgram) (l : Label) (ss : List StartValue) (s : Stop) → IsStop (AuditStops e t q l ss) s
    → IsStop (HasLeak e t q (Some l) ss) s
leak_stop e t q l ss s h = broke_map (AuditStops e t q l ss) (HasLeak e t q (Some l) ss) (status_of s) (stop_text s) (λ k. inl k) h

-- ---- of a refused program

pub open_list_tells : (e : Environment) (t : ℕ) (x : Shown) (l : Label) (ss : List StartValue) (y : List ℕ) → IsOpenTold e t x.labelled l ss y
    → HasOpenLeak e t x (Some l) (inl ss) status.Done (x.head ++ y)
open_list_tells e t x l ss y h = inr (h.0, h.1, (refl, (y, h.2, refl)))

pub open_list_stops : (e : Environment) (t : ℕ) (x : Shown) (l : Label) (ss : List StartValue) (s : Stop) → IsStop (AuditStops e t x.labelled l ss) s
    → IsStop (HasOpenLeak e t x (Some l) (inl ss)) s
open_list_stops e t x l ss s h =
    broke_map (AuditStops e t x.labelled l ss) (HasOpenLeak e t x (Some l) (inl ss)) (status_of s) (stop_text s) (λ k. inl k) h

pub open_space_tells : (e : Environment) (t : ℕ) (x : Shown) (l : Label) (z : SpaceValue) (y : List ℕ)
    → HasSpaceLeak e t x.labelled (Some l) z status.Done y → HasOpenLeak e t x (Some l) (inr z) status.Done (x.head ++ y)
open_space_tells e t x l z y (inl h) = absurd h
open_space_tells e t x l z y (inr h) = inr (h.0, h.1, (refl, (y, h.2.1, refl)))

pub open_space_stops : (e : Environment) (t : ℕ) (x : Shown) (l : Label) (z : SpaceValue) (s : Stop) → IsStop (SpaceStops e t x.labelled l z) s
    → IsStop (HasOpenLeak e t x (Some l) (inr z)) s
open_space_stops e t x l z s h =
    broke_map (SpaceStops e t x.labelled l z) (HasOpenLeak e t x (Some l) (inr z)) (status_of s) (stop_text s) (λ k. inl k) h

-- ---- no answer is a write fault

no_fault_in : (e : Environment) (t : ℕ) (q : LabelledProgram) (o : Option Label) (ss : List StartValue) (x : List ℕ) → HasLeak e t q o ss status.WriteFault x
    → ⊥
no_fault_in e t q None ss x h = h
no_fault_in e t q (Some l) ss x (inl h) = h
no_fault_in e t q (Some l) ss x (inr (r, is, h)) = cc (h.0)

no_fault_typed : (e : Environment) (t : ℕ) (q : LabelledProgram) (o : Option Label) (g : GivenValue) (x : List ℕ) → HasTypedLeak e t q o g status.WriteFault x
    → ⊥
no_fault_typed e t q o (inl ss) x h = no_fault_in e t q o ss x h
no_fault_typed e t q o (inr s) x h = no_write_fault e t q o s x h

no_fault_open : (e : Environment) (t : ℕ) (x : Shown) (o : Option Label) (g : GivenValue) (y : List ℕ) → HasOpenLeak e t x o g status.WriteFault y → ⊥
no_fault_open e t x None g y h = h
no_fault_open e t x (Some l) (inl ss) y (inl h) = h
no_fault_open e t x (Some l) (inl ss) y (inr (r, is, h)) = cc (h.0)
no_fault_open e t x (Some l) (inr z) y (inl h) = h
no_fault_open e t x (Some l) (inr z) y (inr (k, is, h)) = cc (h.0)

no_fault_of : (e : Environment) (t : ℕ) (p : Syntax) (x : Shown) (o : Option Label) (g : GivenValue) (y : List ℕ)
    → HasLeakOf e t p x o g status.WriteFault y → ⊥
no_fault_of e t p x o g y (inl h) = no_fault_typed e t x.labelled o g y h.1
no_fault_of e t p x o g y (inr h) = no_fault_open e t x o g y h.1

no_fault_next : (Rose : Type 0) (held : Option (Option (List ℕ))) (e : Environment) (t : ℕ) (p : Syntax) (x : Shown) (o : Option Label) (code : Code)
    (y : List ℕ) → leak_next Rose held e t p x o code status.WriteFault y → ⊥
no_fault_next Rose held e t p x o code y (inl h) = h
no_fault_next Rose held e t p x o code y (inr (g, is, h)) = no_fault_of e t p x o g y h

pub leak_no_fault : (refused : Bool) (Rises : List ℕ → Type 0) (content : Content) (file starts observer : List ℕ) (e : Environment) (t : ℕ) (y : List ℕ)
    → IsLeakAnswer Rises content file starts observer e t refused status.WriteFault y → ⊥
leak_no_fault refused Rises content file starts observer e t y =
    from_no_fault refused Rises content file (Some observer) (leak_next (Rises starts) (content starts) e t) y
    (λ p x o code. no_fault_next (Rises starts) (content starts) e t p x o code y)

-- ---- no answer to a program that runs is a read fault

no_read_in : (e : Environment) (t : ℕ) (q : LabelledProgram) (o : Option Label) (ss : List StartValue) (x : List ℕ)
    → HasLeak e t q o ss status.ReadFault x → ⊥
no_read_in e t q None ss x h = h
no_read_in e t q (Some l) ss x (inl h) = h
no_read_in e t q (Some l) ss x (inr (r, is, h)) = cc (h.0)

no_read_typed : (e : Environment) (t : ℕ) (q : LabelledProgram) (o : Option Label) (g : GivenValue) (x : List ℕ)
    → HasTypedLeak e t q o g status.ReadFault x → ⊥
no_read_typed e t q o (inl ss) x h = no_read_in e t q o ss x h
no_read_typed e t q o (inr s) x h = no_read_fault e t q o s x h

no_read_open : (e : Environment) (t : ℕ) (x : Shown) (o : Option Label) (g : GivenValue) (y : List ℕ) → HasOpenLeak e t x o g status.ReadFault y → ⊥
no_read_open e t x None g y h = h
no_read_open e t x (Some l) (inl ss) y (inl h) = h
no_read_open e t x (Some l) (inl ss) y (inr (r, is, h)) = cc (h.0)
no_read_open e t x (Some l) (inr z) y (inl h) = h
no_read_open e t x (Some l) (inr z) y (inr (k, is, h)) = cc (h.0)

pub no_read_by : (labels : LeastLabelled) (e : Environment) (t : ℕ) (o : Option Label) (g : GivenValue) (y : List ℕ)
    → LeakBy labels e t o g status.ReadFault y → ⊥
no_read_by (Accepted typed) e t o g y h = no_read_typed e t typed.labelled o g y h
no_read_by (Refused q refusal) e t o g y h = no_read_open e t (open_shown q refusal) o g y h

-- ---- what can be done is done

leak_done : (e : Environment) (t : ℕ) (q : LabelledProgram) (o : Option Label) (ss : List StartValue) (s : Status) (x : List ℕ)
    → OfObserver (λ l. CanBeAudited e t q l ss) o → HasLeak e t q o ss s x → s ≡ status.Done
leak_done e t q None ss s x k h = absurd h
leak_done e t q (Some l) ss s x k (inl h) = absurd (audit_goes e t q l ss s x k h)
leak_done e t q (Some l) ss s x k (inr h) = h.2.0

open_done : (e : Environment) (t : ℕ) (x : Shown) (o : Option Label) (ss : List StartValue) (s : Status) (y : List ℕ)
    → OfObserver (λ l. CanBeAudited e t x.labelled l ss) o → HasOpenLeak e t x o (inl ss) s y → s ≡ status.Done
open_done e t x None ss s y k h = absurd h
open_done e t x (Some l) ss s y k (inl h) = absurd (audit_goes e t x.labelled l ss s y k h)
open_done e t x (Some l) ss s y k (inr h) = h.2.0

done_of : (e : Environment) (t : ℕ) (p : Syntax) (x : Shown) (o : Option Label) (ss : List StartValue) (s : Status) (y : List ℕ)
    → OfObserver (λ l. CanBeAudited e t x.labelled l ss) o → HasLeakOf e t p x o (inl ss) s y → s ≡ status.Done
done_of e t p x o ss s y k (inl h) = leak_done e t x.labelled o ss s y k h.1
done_of e t p x o ss s y k (inr h) = open_done e t x o ss s y k h.1

pub completes : (old new : Option (List ℕ)) (refused : Bool) (Rises : List ℕ → Type 0) (content : Content) (file starts observer : List ℕ)
    (e : Environment) (t : ℕ) (r : Status) (Rose : Type 0) →
    EndsBy old new Nothing (IsLeakAnswer Rises content file starts observer e t refused) r → (r ≡ status.WriteFault → Rose) →
    CanLeak refused content file starts observer e t → (Rises file → ⊥) → (Rises starts → ⊥) → (Rose → ⊥) → (r ≡ status.Done) ⊎ (r ≡ status.Memory)
completes old new refused Rises content file starts observer e t r Rose ends write can one other n =
    ends_done old new Nothing (IsLeakAnswer Rises content file starts observer e t refused) r ends (λ w. n (write w))
    (λ y h.
    from_done refused Rises content file (Some observer) (leak_next (Rises starts) (content starts) e t) r y can.program can.observed one can.known can.reads
    can.observes can.runs can.short
    (λ x code shows.
    let p = can.program in
    let good = can.audited x shows in
    then_goes_from (GivenStops (Rises starts) (content starts) p) (GivenIs (content starts) p) (λ g. HasLeakOf e t p x can.observed g) r y (inl good.0) good.1
    (one_given (content starts) can.known_starts p) (given_or_stop (content starts) can.known_starts p (Rises starts) (inl good.0) r y other good.1)
    (done_of e t p x can.observed good.0 r y good.2)) h)
