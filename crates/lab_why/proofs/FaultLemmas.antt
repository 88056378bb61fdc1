-- What is told of a text that is no program.
use Rattle.std.proofs.Common.{◌≡◌, ℕ, List, ◌++◌, Option, ◌⊎◌, inl, inr, refl, sym, ap, subst, ◌∙◌, Result, Ok, Err, IfOk}
use Rattle.label_lattice.specs.Order.{IsOrder}
use Rattle.mit_syntax.specs.declared.fault.TextFault.{TextFault}
use Rattle.mit_syntax.specs.declared.token.Token.{Token}
use Rattle.mit_syntax.specs.Cut.{AreTokens, IsFault}
use Rattle.mit_syntax.specs.Plan.{count, mitigates}
use Rattle.mit_syntax.specs.Program.{Syntax, plan_of}
use Rattle.mit_syntax.proofs.OneFault.{no_tokens, one_fault}
use Rattle.mit_syntax.proofs.OneList.{one_list}
use Rattle.mit_parser.specs.declared.fault.ParseFault.{ParseFault}
use Rattle.mit_parser.specs.Words.{Told, told}
use Rattle.mit_parser.specs.Spells.{Refuses}
use Rattle.parse_laws.proofs.Meant.{program_order}
use Rattle.parse_laws.proofs.OneRefusal.{one_refusal}
use Rattle.fault_print.specs.Faults.{TellsText, TellsTokens}
use Rattle.fault_print.proofs.OneTold.{one_text, one_tokens}
use Rattle.tool_texts.specs.declared.status.Status.{Status}
use Rattle.tool_texts.specs.declared.status.Status.TheVariants as status
use Rattle.tool_texts.specs.Texts.{program, accepted_line}
use Rattle.tool_stages.specs.Fetches.{FileStops}
use Rattle.tool_stages.specs.Stages.{Then, Reads, ProgramStops}
use Rattle.tool_stages.specs.Content.{IsKnown}
use Rattle.tool_stages.proofs.GoesLemmas.{one_told, program_goes}
use Rattle.tool_stages.proofs.OneLemmas.{Same, then_one, one_program, one_program_stop}
use Rattle.lab_why.specs.declared.explained.Explained.{Explained}
use Rattle.lab_why.specs.declared.explained.Explained.TheVariants as explained
use Rattle.lab_why.specs.Explained.{status_told, text_told, IsExplained}
use Rattle.lab_why.specs.Answers.{IsTypeAnswer}
use Rattle.lab_why.specs.Faulty.{HasTextTold, HasTokensTold, HasFaultTold, WhyStops}

-- ---- from what was told of a text to the answer

pub if_ok : {A E : Type 0} (r : Result A E) (P Q : A → Type 0) → ((v : A) → P v → Q v) → IfOk r P → IfOk r Q
if_ok (Ok v) P Q f h = f v h
if_ok (Err e) P Q f h = h

pub explained_answers : (R : Type 0) (c : Option (Option (List ℕ))) (x : Explained) → IsExplained c x
    → Then (WhyStops R c) (Reads c) (λ p. IsTypeAnswer c p) (status_told x) (text_told x)
explained_answers R c (explained.Accepted q) h =
    let line = ap (λ (z : Syntax). accepted_line (count (plan_of z)) (mitigates (plan_of z))) h.2.program in
    inr (h.0, h.1, inr (q.labelled, h.2, (refl, line)))
explained_answers R c (explained.Refused lines) h = inr (h.0, h.1, inl h.2)
explained_answers R c (explained.Faulty lines) h = inl h

-- a file that gives no bytes
pub file_why : (R : Type 0) (c : Option (Option (List ℕ))) (s : Status) (t : List ℕ) → FileStops R c program s t → WhyStops R c s t
file_why R c status.Done t h = absurd h
file_why R c status.Refused t h = absurd h
file_why R c status.Syntax t h = absurd h
file_why R c status.Starts t h = absurd h
file_why R c status.Usage t h = absurd h
file_why R c status.ReadFault t h = h
file_why R c status.WriteFault t h = absurd h
file_why R c status.TooLong t h = h
file_why R c status.Budget t h = absurd h
file_why R c status.Disagree t h = absurd h
file_why R c status.Unfinished t h = absurd h
file_why R c status.Memory t h = absurd h
file_why R c status.Rejected t h = absurd h

-- ---- one answer at most

-- a stop is a fault of the text, or one that the tool tells too
abbrev Either : Type 0 → Option (Option (List ℕ)) → Status → List ℕ → Type 0
Either R c s t = ((s ≡ status.Syntax) × HasFaultTold c t) ⊎ ((s ≡ status.Syntax → ⊥) × ProgramStops R c s t)

either : (R : Type 0) (c : Option (Option (List ℕ))) (s : Status) (t : List ℕ) → WhyStops R c s t → Either R c s t
either R c status.Done t h = absurd h
either R c status.Refused t h = absurd h
either R c status.Syntax t h = inl (refl, h)
either R c status.Starts t h = absurd h
either R c status.Usage t h = absurd h
either R c status.ReadFault t h = inr ((λ e. cc), h)
either R c status.WriteFault t h = absurd h
either R c status.TooLong t h = inr ((λ e. cc), h)
either R c status.Budget t h = absurd h
either R c status.Disagree t h = absurd h
either R c status.Unfinished t h = absurd h
either R c status.Memory t h = absurd h
either R c status.Rejected t h = absurd h

-- the tool's own line
tool_line : (R : Type 0) (c : Option (Option (List ℕ))) (t : List ℕ) → HasFaultTold c t → (line : List ℕ) × ProgramStops R c status.Syntax line
tool_line R c t (inl h) = (h.line, inl h.stops)
tool_line R c t (inr h) = (h.line, inr h.stops)

module _ (c : Option (Option (List ℕ))) (known : IsKnown c) where
  same_line : (a b : List ℕ) → ProgramStops ⊥ c status.Syntax a → ProgramStops ⊥ c status.Syntax b → a ≡ b
  same_line a b h k = (one_program_stop c known ⊥ status.Syntax status.Syntax a b (λ x. x) h k).1

  texts_one : (t x : List ℕ) → HasTextTold c t → HasTextTold c x → t ≡ x
  texts_one t x h k =
      let f = h.stops in
      let g = k.stops in
      let bytes : f.bytes ≡ g.bytes = one_told c f.bytes g.bytes known f.are g.are in
      let fault : f.fault ≡ g.fault = one_fault g.bytes f.fault g.fault (subst (λ (z : List ℕ). IsFault z f.fault) bytes f.is) g.is f.none g.none in
      let tells : TellsText g.bytes g.fault h.more =
      subst (λ (z : TextFault). TellsText g.bytes z h.more) fault (subst (λ (z : List ℕ). TellsText z f.fault h.more) bytes h.tells) in
      let more : h.more ≡ k.more = one_text g.bytes g.fault h.more k.more tells k.tells in
      h.text ∙ ap (λ (z : List ℕ). z ++ h.more) (same_line h.line k.line (inl f) (inl g)) ∙ ap (λ (z : List ℕ). k.line ++ z) more ∙ sym k.text

  tokens_one : (t x : List ℕ) → HasTokensTold c t → HasTokensTold c x → t ≡ x
  tokens_one t x h k =
      let f = h.stops in
      let g = k.stops in
      let bytes : f.bytes ≡ g.bytes = one_told c f.bytes g.bytes known f.are g.are in
      let list : f.tokens ≡ g.tokens = one_list g.bytes f.tokens g.tokens (subst (λ (z : List ℕ). AreTokens z f.tokens) bytes f.cut) g.cut in
      let words : told f.bytes f.tokens ≡ told g.bytes g.tokens = ap (λ (z : List ℕ). told z f.tokens) bytes ∙ ap (told g.bytes) list in
      let fault : f.fault ≡ g.fault =
      one_refusal (told g.bytes g.tokens) f.fault g.fault (subst (λ (w : List Told). Refuses w f.fault) words f.is) g.is f.none g.none in
      let tells : TellsTokens g.bytes g.tokens g.fault h.more =
      subst (λ (z : ParseFault). TellsTokens g.bytes g.tokens z h.more) fault
      (subst (λ (z : List Token). TellsTokens g.bytes z f.fault h.more) list
      (subst (λ (z : List ℕ). TellsTokens z f.tokens f.fault h.more) bytes h.tells)) in
      let more : h.more ≡ k.more = one_tokens g.bytes g.tokens g.fault h.more k.more tells k.tells in
      h.text ∙ ap (λ (z : List ℕ). z ++ h.more) (same_line h.line k.line (inr f) (inr g)) ∙ ap (λ (z : List ℕ). k.line ++ z) more ∙ sym k.text

  not_both : (t x : List ℕ) → HasTextTold c t → HasTokensTold c x → ⊥
  not_both t x h k =
      let f = h.stops in
      let g = k.stops in
      let bytes : g.bytes ≡ f.bytes = one_told c g.bytes f.bytes known g.are f.are in
      f.none (no_tokens f.bytes f.fault g.tokens f.is (subst (λ (z : List ℕ). AreTokens z g.tokens) bytes g.cut))

  faults_one : (t x : List ℕ) → HasFaultTold c t → HasFaultTold c x → t ≡ x
  faults_one t x (inl h) (inl k) = texts_one t x h k
  faults_one t x (inl h) (inr k) = absurd (not_both t x h k)
  faults_one t x (inr h) (inl k) = absurd (not_both x t k h)
  faults_one t x (inr h) (inr k) = tokens_one t x h k

  either_one : (R : Type 0) (s u : Status) (t x : List ℕ) → (R → ⊥) → Either R c s t → Either R c u x → Same s u t x
  either_one R s u t x n (inl h) (inl k) = (h.0 ∙ sym k.0, faults_one t x h.1 k.1)
  either_one R s u t x n (inl h) (inr k) =
      let line = tool_line R c t h.1 in
      absurd (k.0 (sym (one_program_stop c known R status.Syntax u line.0 x n line.1 k.1).0))
  either_one R s u t x n (inr h) (inl k) =
      let line = tool_line R c x k.1 in
      absurd (h.0 (one_program_stop c known R s status.Syntax t line.0 n h.1 line.1).0)
  either_one R s u t x n (inr h) (inr k) = one_program_stop c known R s u t x n h.1 k.1

  one_why : (R : Type 0) (s u : Status) (t x : List ℕ) → (R → ⊥) → WhyStops R c s t → WhyStops R c u x → Same s u t x
  one_why R s u t x n h k = either_one R s u t x n (either R c s t h) (either R c u x k)

-- a text that spells a program does not stop `why`
pub why_goes : (R : Type 0) (c : Option (Option (List ℕ))) (p : Syntax) (s : Status) (t : List ℕ) → (R → ⊥) → IsKnown c → Reads c p
    → WhyStops R c s t → ⊥
why_goes R c p s t n known r h = by (either R c s t h)
  where
    by : Either R c s t → ⊥
    by (inl k) = let line = tool_line R c t k.1 in program_goes R c p status.Syntax line.0 n known r line.1
    by (inr k) = program_goes R c p s t n known r k.1

-- a file's program has one answer, if what comes behind the reading has one
pub why_one : (s u : Status) (t x : List ℕ) (R : Type 0) (c : Option (Option (List ℕ))) (Next : Syntax → Status → List ℕ → Type 0) → (R → ⊥) → IsKnown c
    → ((p : Syntax) → IsOrder p.order → Next p s t → Next p u x → Same s u t x)
    → Then (WhyStops R c) (Reads c) (λ p. Next p) s t → Then (WhyStops R c) (Reads c) (λ p. Next p) u x → Same s u t x
why_one s u t x R c Next n known next =
    then_one (WhyStops R c) (Reads c) (λ p. Next p) s u t x (one_why c known R s u t x n) (λ p v y r. why_goes R c p v y n known r) (one_program c known)
    (λ p r. next p (program_order _ p r.spelled))
