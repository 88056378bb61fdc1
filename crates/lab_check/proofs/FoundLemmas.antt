-- From what a text spells to what is found in it.
use Rattle.std.proofs.Common.{◌≡◌, ◌≢◌, ◌≤◌, ℕ, List, [], ◌++◌, length, Option, Some, refl, sym, ap, subst, ◌∙◌, inl, inr, Result, IfOk}
use Rattle.text_base.specs.declared.pos.Memory.{Memory}
use Rattle.text_base.specs.declared.pos.Pos.{Pos}
use Rattle.tim_base.specs.Told.{limit, IsTold}
use Rattle.mit_syntax.specs.declared.fault.TextFault.{TextFault}
use Rattle.mit_syntax.specs.declared.fault.TextFault.TheVariants as text
use Rattle.mit_syntax.specs.declared.token.Token.{Token}
use Rattle.mit_syntax.specs.Cut.{AreTokens, IsFault}
use Rattle.mit_syntax.specs.Program.{Syntax}
use Rattle.mit_parser.specs.declared.fault.ParseFault.{ParseFault}
use Rattle.mit_parser.specs.declared.fault.ParseFault.TheVariants as parse
use Rattle.mit_parser.specs.Words.{told}
use Rattle.mit_parser.specs.Spells.{Refuses}
use Rattle.timing_types.specs.declared.rule.TypeFault.{TypeFault}
use Rattle.timing_types.specs.declared.rule.TypeFault.TheVariants.{Refused as BrokenAt, Memory as NoRoom}
use Rattle.timing_types.specs.Labelling.{Labelling}
use Rattle.timing_types.specs.Labelled.{LabelledProgram, HasType, first_broken_of}
use Rattle.label_infer.specs.Least.{IsLeast, TypesMost}
use Rattle.next_tokens.specs.declared.sort.Sort.{Sort}
use Rattle.fault_print.specs.Faults.{TellsText, TellsTokens, CouldFollow}
use Rattle.fault_print.specs.Marked.{before_place}
use Rattle.flow_path.specs.declared.step.Step.{Step}
use Rattle.flow_path.specs.Chains.{IsReason, AreNoCheaper}
use Rattle.flow_path.specs.Told.{IsEarliest}
use Rattle.tool_texts.specs.declared.status.Status.{Status}
use Rattle.tool_texts.specs.declared.status.Status.TheVariants as status
use Rattle.tool_texts.specs.Texts.{program, text_fault_line, parse_fault_line, header_name, refused_line}
use Rattle.tool_texts.specs.Ends.{Broke, Tells, Nothing}
use Rattle.tool_stages.specs.Fetches.{FileStops}
use Rattle.tool_stages.specs.Stages.{Then, Reads}
use Rattle.tool_stages.specs.Content.{Content}
use Rattle.found_print.specs.Faults.{text_place, parse_place, fault_object}
use Rattle.found_print.specs.Refused.{refused_object}
use Rattle.lab_why.specs.Reasons.{refusal_text}
use Rattle.lab_check.specs.Answers.{CheckStops, FoundStops, IsFound, IsCheckAnswer}
use Rattle.lab_check.specs.Found.{IsSpelled, IsTextAnswer, unread_line}
use Rattle.lab_check.specs.declared.answer.Answer.{Answer}
use Rattle.lab_check.specs.declared.faulty.Spelled.{Spelled}
use Rattle.lab_check.specs.declared.faulty.Spelled.TheVariants.{Spells}
use Rattle.lab_why.proofs.FaultLemmas.{if_ok}
use Rattle.lab_check.specs.Faults.{HasTextFound, HasTokensFound, TextCould, TokensCould}
use Rattle.lab_check.specs.Reasons.{HasReasonFound}

-- what could follow the text F, which stands before a byte, could stand in place of the byte
pub byte_could : {A E : Type 0} (r : Result A E) (items : A → List Sort) (T F : List ℕ) (f : TextFault) (p : Pos) → f ≡ text.BadByte p
    → F ≡ before_place T p → IfOk r (λ v. CouldFollow F (items v)) → IfOk r (λ v. TextCould T f (items v))
byte_could r items T F f p is at h =
    if_ok r (λ v. CouldFollow F (items v)) (λ v. TextCould T f (items v))
    (λ v k. subst (λ (g : TextFault). TextCould T g (items v)) (sym is) (subst (λ (z : List ℕ). CouldFollow z (items v)) at k)) h

module _ (T : List ℕ) (short : length T ≤ limit) where
  -- a text that has no tokens; a, b and cs are what the object is made of
  pub has_text : (f : TextFault) (line more a b t : List ℕ) (place : Option (Pos × ℕ)) (could cs : List Sort) → IsFault T f → f ≢ text.Memory
      → line ≡ text_fault_line f → TellsText T f more → TextCould T f could → place ≡ text_place T f → a ≡ line → b ≡ more → cs ≡ could
      → t ≡ fault_object a place cs b → (c : Option (Option (List ℕ))) → IsTold c T → HasTextFound c t
  has_text f line more a b t place could cs is none first tells follows at e g i whole c are =
      record {
        lines = line ++ more;
        why = record {
          line = line;
          stops = record { bytes = T; are = are; short = short; fault = f; none = none; is = is; line = first };
          more = more;
          tells = tells;
          text = refl;
        };
        could = could;
        follows = follows;
        text = whole ∙ ap (λ (z : List ℕ). fault_object z place cs b) e ∙ ap (λ (z : Option (Pos × ℕ)). fault_object line z cs b) at
            ∙ ap (λ (z : List Sort). fault_object line (text_place T f) z b) i ∙ ap (fault_object line (text_place T f) could) g;
      }

  -- tokens that are no program
  pub has_tokens : (ts : List Token) (f : ParseFault) (line more a b t : List ℕ) (place : Option (Pos × ℕ)) (could cs : List Sort) → AreTokens T ts
      → Refuses (told T ts) f → f ≢ parse.Memory → line ≡ parse_fault_line (header_name T ts) f → TellsTokens T ts f more → TokensCould T ts f could
      → place ≡ parse_place T ts f → a ≡ line → b ≡ more → cs ≡ could → t ≡ fault_object a place cs b
      → (c : Option (Option (List ℕ))) → IsTold c T → HasTokensFound c t
  has_tokens ts f line more a b t place could cs cut is none first tells follows at e g i whole c are =
      record {
        lines = line ++ more;
        why = record {
          line = line;
          stops = record { bytes = T; are = are; short = short; tokens = ts; cut = cut; fault = f; none = none; is = is; line = first };
          more = more;
          tells = tells;
          text = refl;
        };
        could = could;
        follows = follows;
        text = whole ∙ ap (λ (z : List ℕ). fault_object z place cs b) e ∙ ap (λ (z : Option (Pos × ℕ)). fault_object line z cs b) at
            ∙ ap (λ (z : List Sort). fault_object line (parse_place T ts f) z b) i ∙ ap (fault_object line (parse_place T ts f) could) g;
      }

-- ---- a program that is refused

has_reason : (c : Option (Option (List ℕ))) (p : Syntax) (l : Labelling) (f : TypeFault) (chain : List Step) (x : Reads c p) → IsLeast p l → TypesMost p l
    → (HasType (record { program = p; labels = l }) → ⊥)
    → first_broken_of (record { program = p; labels = l }) ≡ Some f → IsReason (record { program = p; labels = l }) f chain
    → AreNoCheaper (record { program = p; labels = l }) f chain → IsEarliest (record { program = p; labels = l }) f chain
    → HasReasonFound c p (refused_object x.bytes x.tokens p f chain)
has_reason c p l (BrokenAt rule at have allowed) chain x least most none first reason cheapest earliest =
    record {
      lines = refusal_text x.bytes x.tokens p (BrokenAt rule at have allowed) chain;
      why = record {
        source = x;
        line = refused_line p.order rule at have allowed;
        refused = record {
          labels = l;
          least = least;
          none = λ others k h. none (most others k h);
          rule = rule;
          at = at;
          have = have;
          allowed = allowed;
          first = first;
          line = refl;
        };
        chain = chain;
        reason = reason;
        cheapest = cheapest;
        earliest = earliest;
        text = refl;
      };
      text = refl;
    }
has_reason c p l NoRoom chain x least most none first reason cheapest earliest = absurd reason.ends

-- the refusal of the program with its least labels is told with the text and the tokens that were read
pub finds_reason : (c : Option (Option (List ℕ))) (p : Syntax) (q r : LabelledProgram) (f : TypeFault) (chain : List Step) (x : Reads c p) (text : List ℕ)
    (tokens : List Token) (t : List ℕ)
    → x.bytes ≡ text → x.tokens ≡ tokens → q.program ≡ p → r ≡ q → IsLeast p q.labels → TypesMost p q.labels → (HasType q → ⊥) → first_broken_of q ≡ Some f
    → IsReason q f chain → AreNoCheaper q f chain → IsEarliest q f chain
    → t ≡ refused_object text tokens r.program f chain → HasReasonFound c p t
finds_reason c p q r f chain x text tokens t bytes list from kept least most none first reason cheapest earliest is =
    let whole : ◌≡◌ {A = LabelledProgram} q (record { program = p; labels = q.labels }) =
    ap (λ (z : Syntax). record { program = z; labels = q.labels }) from in
    let told = has_reason c p q.labels f chain x least most (subst (λ (z : LabelledProgram). HasType z → ⊥) whole none)
    (subst (λ (z : LabelledProgram). first_broken_of z ≡ Some f) whole first)
    (subst (λ (z : LabelledProgram). IsReason z f chain) whole reason) (subst (λ (z : LabelledProgram). AreNoCheaper z f chain) whole cheapest)
    (subst (λ (z : LabelledProgram). IsEarliest z f chain) whole earliest) in
    let same : r.program ≡ p = ap (λ (z : LabelledProgram). z.program) kept ∙ from in
    let line : t ≡ refused_object x.bytes x.tokens p f chain =
    is ∙ ap (λ (z : List ℕ). refused_object z tokens r.program f chain) (sym bytes)
    ∙ ap (λ (z : List Token). refused_object x.bytes z r.program f chain) (sym list)
    ∙ ap (λ (z : Syntax). refused_object x.bytes x.tokens z f chain) same in
    subst (HasReasonFound c p) (sym line) told

-- ---- from a text to a file

-- a count that rose since then rose since the call began
pub check_rise : (R R' : Type 0) (c : Option (Option (List ℕ))) (s : Status) (t : List ℕ) → (R → R') → CheckStops R c s t → CheckStops R' c s t
check_rise R R' c status.Done t f h = h
check_rise R R' c status.Refused t f h = h
check_rise R R' c status.Syntax t f h = h
check_rise R R' c status.Starts t f h = h
check_rise R R' c status.Usage t f h = h
check_rise R R' c status.ReadFault t f h = (f h.0, h.1)
check_rise R R' c status.WriteFault t f h = h
check_rise R R' c status.TooLong t f h = h
check_rise R R' c status.Budget t f h = h
check_rise R R' c status.Disagree t f h = h
check_rise R R' c status.Unfinished t f h = h
check_rise R R' c status.Memory t f h = h
check_rise R R' c status.Rejected t f h = h

-- an answer for a text is one for the file that holds it
pub text_answers : (R : Type 0) (c : Option (Option (List ℕ))) (s : Status) (t : List ℕ)
    → Then (CheckStops ⊥ c) (Reads c) (λ p. IsFound c p) s t → Then (CheckStops R c) (Reads c) (λ p. IsFound c p) s t
text_answers R c s t (inl h) = inl (check_rise ⊥ R c s t (λ e. absurd e) h)
text_answers R c s t (inr h) = inr h

-- an answer for a text is no read fault
no_read : (c : Option (Option (List ℕ))) (t : List ℕ) → Then (CheckStops ⊥ c) (Reads c) (λ p. IsFound c p) status.ReadFault t → ⊥
no_read c t (inl h) = h.0
no_read c t (inr (p, reads, inl h)) = h
no_read c t (inr (p, reads, inr h)) = let k : status.ReadFault ≡ status.Done = h.2.0 in cc

pub text_no_read : (c : Option (Option (List ℕ))) (s : Status) (t : List ℕ) → Then (CheckStops ⊥ c) (Reads c) (λ p. IsFound c p) s t
    → s ≢ status.ReadFault
text_no_read c s t h e = no_read c t (subst (λ (z : Status). Then (CheckStops ⊥ c) (Reads c) (λ p. IsFound c p) z t) e h)

-- the program of a text is answered
pub spells_found : (T : List ℕ) (s : Spelled) (p : Syntax) (r : Result Answer Memory)
    → ((c : Option (Option (List ℕ))) → IsTold c T → IsSpelled c T s) → s ≡ Spells p
    → IfOk r (λ x. (c : Option (Option (List ℕ))) (reads : Reads c p) → reads.bytes ≡ T → IsFound c p x.status x.text.items)
    → IfOk r (λ x. (c : Option (Option (List ℕ))) → IsTold c T → IsTextAnswer c x)
spells_found T s p r h e k = if_ok r _ _ (λ x answers c are.
    let reads : (reads : Reads c p) × (reads.bytes ≡ T) = subst (λ (z : Spelled). IsSpelled c T z) e (h c are) in
    inr (p, reads.0, answers c reads.0 reads.1)) k

-- ---- from an answer to what is told

module _ (Rises : List ℕ → Type 0) (content : Content) (file : List ℕ) where
  abbrev Answers : Status → List ℕ → Type 0
  Answers = IsCheckAnswer Rises content file

  done_alone : (p : Syntax) (s : Status) (t : List ℕ) → (s ≡ status.Done → ⊥) → (FoundStops (content file) p s t → ⊥) → IsFound (content file) p s t → ⊥
  done_alone p s t n f (inl h) = f h
  done_alone p s t n f (inr h) = n h.2.0

  -- no answer is a write fault, or tells of memory
  pub no_write : (t : List ℕ) → Answers status.WriteFault t → ⊥
  no_write t (inl h) = h
  no_write t (inr h) = done_alone h.0 status.WriteFault t (λ e. cc) (λ e. e) h.2

  no_memory : (t : List ℕ) → Answers status.Memory t → ⊥
  no_memory t (inl h) = h
  no_memory t (inr h) = done_alone h.0 status.Memory t (λ e. cc) (λ e. e) h.2

  pub check_tells : (s : Status) (t : List ℕ) → Answers s t → Tells Nothing Answers s t
  check_tells status.Done t h = h
  check_tells status.Refused t h = h
  check_tells status.Syntax t h = h
  check_tells status.Starts t h = h
  check_tells status.Usage t h = h
  check_tells status.ReadFault t h = h
  check_tells status.WriteFault t h = h
  check_tells status.TooLong t h = h
  check_tells status.Budget t h = h
  check_tells status.Disagree t h = h
  check_tells status.Unfinished t h = h
  check_tells status.Memory t h = absurd (no_memory t h)
  check_tells status.Rejected t h = h

  -- a file that gives no bytes, or want of memory
  pub unread_tells : (s : Status) (t : List ℕ) → Broke (FileStops (Rises file) (content file) program) s t → Tells Nothing Answers s (unread_line s t)
  unread_tells status.Done t h = absurd h
  unread_tells status.Refused t h = absurd h
  unread_tells status.Syntax t h = absurd h
  unread_tells status.Starts t h = absurd h
  unread_tells status.Usage t h = absurd h
  unread_tells status.ReadFault t h = inl (h.0, refl)
  unread_tells status.WriteFault t h = absurd h
  unread_tells status.TooLong t h = inl (h.0, refl)
  unread_tells status.Budget t h = absurd h
  unread_tells status.Disagree t h = absurd h
  unread_tells status.Unfinished t h = absurd h
  unread_tells status.Memory t h = ([], refl, h)
  unread_tells status.Rejected t h = absurd h
