-- What is told of an audit, and of a start file.
use Rattle.std.proofs.Common.{◌≡◌, ◌<◌, ◌≤◌, ℕ, List, All, ◌++◌, length, map, Option, Some, inl, inr, refl, sym, ap, subst, ◌∙◌, codes, Result, Ok, Err, IfOk}
use Rattle.std.proofs.lemmas.List.{length-map}
use Rattle.text_base.specs.declared.pos.Memory.{Memory}
use Rattle.tim_base.specs.Told.{limit, IsTold}
use Rattle.label_lattice.specs.declared.label.Label.{Label}
use Rattle.mit_syntax.specs.Plan.{count, mitigates}
use Rattle.mit_syntax.specs.Program.{Syntax, plan_of}
use Rattle.timing_types.specs.Labelled.{LabelledProgram}
use Rattle.tool_stages.specs.declared.compiled.Compiled.{Compiled}
use Rattle.start_file.specs.declared.start.Start.{Start}
use Rattle.start_file.specs.Starts.{StartValue, IsFor, seen, Gives}
use Rattle.leak_audit.specs.declared.what.What.{What}
use Rattle.leak_audit.specs.declared.report.AuditReport.{AuditReport}
use Rattle.leak_audit.specs.declared.report.AuditFault.TheVariants as fault
use Rattle.tool_texts.specs.declared.status.Status.{Status}
use Rattle.tool_texts.specs.declared.status.Status.TheVariants as status
use Rattle.tool_texts.specs.Texts.{accepted_line, number_line}
use Rattle.tool_texts.specs.Reports.{disagree_line, unfinished_line, events_line}
use Rattle.tool_stages.specs.Begins.{CanAudit}
use Rattle.tool_stages.specs.Envs.{ReportsIn, AuditFaultsIn}
use Rattle.tool_stages.specs.Stages.{HasImage}
use Rattle.tool_stages.specs.declared.envs.Environment.{Environment}
use Rattle.tool_stages.proofs.StartLemmas.{count_given}
use Rattle.lab_why.specs.declared.starts.Told.{Told}
use Rattle.lab_why.specs.Starts.{HasStartsTold, StartsStop}
use Rattle.lab_ready.specs.Answer.{AuditTold, IsRest, most_shown, ready_line, ready_text}
use Rattle.lab_ready.specs.Budget.{BudgetTold}
use Rattle.lab_ready.specs.Differs.{differs_lines}

module _ (e : Environment) (t : ℕ) (q : LabelledProgram) (l : Label) (ss : List StartValue) where
  -- two starts do not agree
  pub apart_told : (run : ℕ) (what : What) (v : Result Told Memory) → AuditFaultsIn e q l.number t ss (fault.Disagree run what)
      → IfOk v (λ x. x.status ≡ status.Disagree)
      → IfOk v (λ x. x.text.items ≡ disagree_line q.program run what ++ differs_lines q l ss run what)
      → IfOk v (λ x. AuditTold e t q (Some l) ss x.status x.text.items)
  apart_told run what (Ok x) is s h = inl (fault.Disagree run what, is, s, h)
  apart_told run what (Err m) is s h = h

  -- a run has not halted; a and b are the pieces that are written
  pub unfinished_told : (run cycle : ℕ) (line a b : List ℕ) (v : Result Told Memory) → AuditFaultsIn e q l.number t ss (fault.Unfinished run cycle)
      → BudgetTold e q l.number ss 4 t a → line ≡ unfinished_line run cycle → b ≡ a
      → IfOk v (λ x. x.status ≡ status.Unfinished) → IfOk v (λ x. x.text.items ≡ line ++ b)
      → IfOk v (λ x. AuditTold e t q (Some l) ss x.status x.text.items)
  unfinished_told run cycle line a b (Ok x) is more first same s h =
      inl (
        fault.Unfinished run cycle,
        is,
        s,
        (a, more, h ∙ ap (λ (z : List ℕ). z ++ b) first ∙ ap (λ (z : List ℕ). unfinished_line run cycle ++ z) same),
      )
  unfinished_told run cycle line a b (Err m) is more first same s h = h

  -- too much is shown
  pub shown_told : (count : ℕ) (line b : List ℕ) (v : Result Told Memory) → AuditFaultsIn e q l.number t ss (fault.TooMuch count)
      → line ≡ events_line count → b ≡ most_shown
      → IfOk v (λ x. x.status ≡ status.TooLong) → IfOk v (λ x. x.text.items ≡ line ++ b)
      → IfOk v (λ x. AuditTold e t q (Some l) ss x.status x.text.items)
  shown_told count line b (Ok x) is first same s h =
      inl (
        fault.TooMuch count,
        is,
        s,
        h ∙ ap (λ (z : List ℕ). z ++ b) first ∙ ap (λ (z : List ℕ). events_line count ++ z) same,
      )
  shown_told count line b (Err m) is first same s h = h

-- the text where an audit has a report, of its pieces
pub ready_put : (q : LabelledProgram) (p r : Syntax) (n k m : ℕ) (runs a b rest line d f x : List ℕ) → p ≡ q.program → r ≡ q.program
    → k ≡ count (plan_of p) → m ≡ mitigates (plan_of r) → runs ≡ number_line (codes "starts ") n → a ≡ runs → b ≡ ready_line → rest ≡ a ++ b
    → line ≡ accepted_line k m → d ≡ line → f ≡ rest → x ≡ d ++ f
    → x ≡ accepted_line (count (plan_of q.program)) (mitigates (plan_of q.program)) ++ (number_line (codes "starts ") n ++ ready_line)
ready_put q p r n k m runs a b rest line d f x program other many masks number e g behind first h i whole =
    let commands : k ≡ count (plan_of q.program) = many ∙ ap (λ (z : Syntax). count (plan_of z)) program in
    let mits : m ≡ mitigates (plan_of q.program) = masks ∙ ap (λ (z : Syntax). mitigates (plan_of z)) other in
    let front : d ≡ accepted_line (count (plan_of q.program)) (mitigates (plan_of q.program)) =
    h ∙ first ∙ ap (λ (z : ℕ). accepted_line z m) commands ∙ ap (λ (z : ℕ). accepted_line (count (plan_of q.program)) z) mits in
    let back : f ≡ number_line (codes "starts ") n ++ ready_line =
    i ∙ behind ∙ ap (λ (z : List ℕ). z ++ b) (e ∙ number) ∙ ap (λ (z : List ℕ). number_line (codes "starts ") n ++ z) g in
    whole ∙ ap (λ (z : List ℕ). z ++ f) front
    ∙ ap (λ (z : List ℕ). accepted_line (count (plan_of q.program)) (mitigates (plan_of q.program)) ++ z) back

-- an audit has a report; r and n are what is told of
pub report_told : (e : Environment) (t : ℕ) (q r : LabelledProgram) (l : Label) (ss : List Start) (n : ℕ) (report : AuditReport) (x : List ℕ)
    → ReportsIn e q l.number t (map seen ss) report → r ≡ q → n ≡ length ss
    → x ≡ accepted_line (count (plan_of r.program)) (mitigates (plan_of r.program)) ++ (number_line (codes "starts ") n ++ ready_line)
    → AuditTold e t q (Some l) (map seen ss) status.Done x
report_told e t q r l ss n report x is same many h =
    let runs : n ≡ length (map seen ss) = many ∙ sym (length-map ss seen) in
    let text : x ≡ ready_text q (map seen ss) =
    h ∙ ap (λ (z : LabelledProgram). accepted_line (count (plan_of z.program)) (mitigates (plan_of z.program))
    ++ (number_line (codes "starts ") n ++ ready_line)) same
    ∙ ap (λ (k : ℕ). accepted_line (count (plan_of q.program)) (mitigates (plan_of q.program)) ++ (number_line (codes "starts ") k ++ ready_line)) runs in
    inr (report, is, (refl, text))

-- what is told of a value is told of the value that it is
pub moved : (P : Told → Type 0) (a b : Result Told Memory) → a ≡ b → IfOk b P → IfOk a P
moved P a b e h = subst (λ (z : Result Told Memory). IfOk z P) (sym e) h

-- ---- a start file

pub fits : (T : List ℕ) (k : Compiled) (p : Syntax) (l : Label) (ss : List StartValue) → length T ≤ limit → HasImage k.typed.labelled k.image
    → l.number < k.typed.labelled.program.order.size → p ≡ k.typed.labelled.program → Gives p T (Ok ss) → All (IsFor p) ss
    → CanAudit k.typed.labelled l k.image ss
fits T k p l ss short image sees is gives for =
    let n = count_given (Some (Some T)) k.typed.labelled.program ss (T, refl, short, subst (λ (z : Syntax). Gives z T (Ok ss)) is gives) in
    record {
      image = image.0;
      observer = sees;
      some = n.0;
      few = n.1;
      starts = subst (λ (z : Syntax). All (IsFor z) ss) is for;
    }

module _ (T : List ℕ) (e : Environment) (t : ℕ) (q : LabelledProgram) (l : Label) (p : Syntax) (is : p ≡ q.program) where
  -- bytes that are starts
  pub starts_rest : (ss : List StartValue) (v : Result Told Memory) → length T ≤ limit → Gives p T (Ok ss)
      → IfOk v (λ x. AuditTold e t q (Some l) ss x.status x.text.items)
      → IfOk v (λ x. (c : Option (Option (List ℕ))) → IsTold c T → IsRest ⊥ c e t q.program q (Some l) x.status x.text.items)
  starts_rest ss (Ok x) short gives h = λ c are. inr (ss, (T, are, short, subst (λ (z : Syntax). Gives z T (Ok ss)) is gives), h)
  starts_rest ss (Err m) short gives h = h

  -- bytes that are none
  pub faulty_rest : (v : Result Told Memory) → IfOk v (λ x. x.status ≡ status.Starts)
      → IfOk v (λ x. (c : Option (Option (List ℕ))) → IsTold c T → HasStartsTold c p x.text.items)
      → IfOk v (λ x. (c : Option (Option (List ℕ))) → IsTold c T → IsRest ⊥ c e t q.program q (Some l) x.status x.text.items)
  faulty_rest (Ok x) s h = λ c are.
      inl (subst (λ (z : Status). StartsStop ⊥ c q.program z x.text.items) (sym s)
      (subst (λ (z : Syntax). HasStartsTold c z x.text.items) is (h c are)))
  faulty_rest (Err m) s h = h
