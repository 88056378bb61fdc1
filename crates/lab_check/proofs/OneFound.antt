-- One object at most is the answer, and it ends as `why` ends.
use Rattle.std.proofs.Common.{◌≡◌, ℕ, List, Option, Some, inl, inr, refl, sym, ap, subst, ◌∙◌}
use Rattle.text_base.specs.declared.pos.Pos.{Pos}
use Rattle.label_lattice.specs.Order.{IsOrder}
use Rattle.mit_syntax.specs.declared.fault.TextFault.{TextFault}
use Rattle.mit_syntax.specs.declared.fault.TextFault.TheVariants as text
use Rattle.mit_syntax.specs.declared.token.Token.{Token}
use Rattle.mit_syntax.specs.Cut.{AreTokens, IsFault}
use Rattle.mit_syntax.specs.Plan.{count, mitigates}
use Rattle.mit_syntax.specs.Program.{Syntax, plan_of}
use Rattle.mit_syntax.proofs.OneFault.{no_tokens, one_fault}
use Rattle.mit_syntax.proofs.OneList.{one_list}
use Rattle.mit_parser.specs.declared.fault.ParseFault.{ParseFault}
use Rattle.mit_parser.specs.declared.fault.ParseFault.TheVariants as parse
use Rattle.mit_parser.specs.Words.{Told, told}
use Rattle.mit_parser.specs.Spells.{Refuses}
use Rattle.parse_laws.proofs.Meant.{program_order}
use Rattle.parse_laws.proofs.OneRefusal.{one_refusal}
use Rattle.timing_types.specs.Labelling.{Labelling}
use Rattle.timing_types.specs.Labelled.{LabelledProgram, HasType, first_broken_of}
use Rattle.timing_types.specs.declared.rule.TypeFault.{TypeFault}
use Rattle.label_infer.proofs.OneLeast.{one_least}
use Rattle.next_tokens.specs.declared.sort.Sort.{Sort}
use Rattle.fault_print.specs.Marked.{before_place}
use Rattle.fault_print.specs.Faults.{TellsText, TellsTokens}
use Rattle.fault_print.proofs.OneReach.{one_reach}
use Rattle.fault_print.proofs.OneTold.{one_could, one_text, one_tokens}
use Rattle.flow_path.specs.Told.{IsTold}
use Rattle.flow_path.proofs.Earliest.{told_one}
use Rattle.tool_texts.specs.declared.status.Status.{Status}
use Rattle.tool_texts.specs.declared.status.Status.TheVariants as status
use Rattle.tool_texts.specs.Texts.{program, read_fault_line, too_long_line, accepted_line}
use Rattle.tool_stages.specs.Stages.{Then, Reads, Types, ProgramStops, HasNoType}
use Rattle.tool_stages.specs.Accepted.{HasChecked}
use Rattle.tool_stages.specs.Content.{Content, IsKnown}
use Rattle.tool_stages.specs.Goes.{IsTypable}
use Rattle.tool_stages.proofs.GoesLemmas.{one_told}
use Rattle.tool_stages.proofs.OneLemmas.{Same, then_one, one_program, one_program_stop, same_labelled}
use Rattle.found_print.specs.Faults.{text_place, parse_place, fault_object}
use Rattle.found_print.specs.Refused.{refused_object}
use Rattle.lab_why.specs.Answers.{ReasonStops, IsWhyAnswer}
use Rattle.lab_why.specs.Faulty.{HasFaultTold, WhyStops}
use Rattle.lab_why.specs.Reasons.{HasReason, fault_of, refused_of}
use Rattle.lab_why.proofs.FaultLemmas.{why_goes, why_one}
use Rattle.lab_check.specs.Answers.{CheckStops, FoundStops, IsFound, IsCheckAnswer}
use Rattle.lab_check.specs.Faults.{HasTextFound, HasTokensFound, HasFaultFound, TextCould, TokensCould}
use Rattle.lab_check.specs.Reasons.{HasReasonFound}

-- ---- one text at most

one_text_could : (T : List ℕ) (f : TextFault) (a b : List Sort) → TextCould T f a → TextCould T f b → a ≡ b
one_text_could T (text.NotUtf8 n) a b h k = h ∙ sym k
one_text_could T (text.BadByte p) a b h k = one_could (before_place T p) a b h k
one_text_could T (text.WideNumber p) a b h k = h ∙ sym k
one_text_could T (text.LongName p) a b h k = h ∙ sym k
one_text_could T text.Memory a b h k = h ∙ sym k

one_tokens_could : (T : List ℕ) (ts : List Token) (f : ParseFault) (a b : List Sort) → TokensCould T ts f a → TokensCould T ts f b → a ≡ b
one_tokens_could T ts (parse.Unexpected p) a b h k = (one_reach (told T ts) h.0 k.0 a b h.1 k.1).1
one_tokens_could T ts (parse.TooDeep p) a b h k = h ∙ sym k
one_tokens_could T ts (parse.TooMany n) a b h k = h ∙ sym k
one_tokens_could T ts (parse.Unknown p) a b h k = h ∙ sym k
one_tokens_could T ts (parse.Twice p) a b h k = h ∙ sym k
one_tokens_could T ts (parse.Lattice f) a b h k = h ∙ sym k
one_tokens_could T ts parse.Memory a b h k = h ∙ sym k
one_tokens_could T ts (parse.Size p) a b h k = h ∙ sym k
one_tokens_could T ts (parse.Misuse p) a b h k = h ∙ sym k

module _ (c : Option (Option (List ℕ))) (known : IsKnown c) where
  same_line : (a b : List ℕ) → ProgramStops ⊥ c status.Syntax a → ProgramStops ⊥ c status.Syntax b → a ≡ b
  same_line a b h k = (one_program_stop c known ⊥ status.Syntax status.Syntax a b (λ x. x) h k).1

  texts_one : (t x : List ℕ) → HasTextFound c t → HasTextFound c x → t ≡ x
  texts_one t x h k =
      let f = h.why.stops in
      let g = k.why.stops in
      let bytes : f.bytes ≡ g.bytes = one_told c f.bytes g.bytes known f.are g.are in
      let fault : f.fault ≡ g.fault = one_fault g.bytes f.fault g.fault (subst (λ (z : List ℕ). IsFault z f.fault) bytes f.is) g.is f.none g.none in
      let tells : TellsText g.bytes g.fault h.why.more =
      subst (λ (z : TextFault). TellsText g.bytes z h.why.more) fault (subst (λ (z : List ℕ). TellsText z f.fault h.why.more) bytes h.why.tells) in
      let more : h.why.more ≡ k.why.more = one_text g.bytes g.fault h.why.more k.why.more tells k.why.tells in
      let follows : TextCould g.bytes g.fault h.could =
      subst (λ (z : TextFault). TextCould g.bytes z h.could) fault (subst (λ (z : List ℕ). TextCould z f.fault h.could) bytes h.follows) in
      let could : h.could ≡ k.could = one_text_could g.bytes g.fault h.could k.could follows k.follows in
      let place : text_place f.bytes f.fault ≡ text_place g.bytes g.fault = ap (λ (z : List ℕ). text_place z f.fault) bytes ∙ ap (text_place g.bytes) fault in
      h.text ∙ ap (λ (z : List ℕ). fault_object z (text_place f.bytes f.fault) h.could h.why.more) (same_line h.why.line k.why.line (inl f) (inl g))
      ∙ ap (λ (z : Option (Pos × ℕ)). fault_object k.why.line z h.could h.why.more) place
      ∙ ap (λ (z : List Sort). fault_object k.why.line (text_place g.bytes g.fault) z h.why.more) could
      ∙ ap (fault_object k.why.line (text_place g.bytes g.fault) k.could) more ∙ sym k.text

  tokens_one : (t x : List ℕ) → HasTokensFound c t → HasTokensFound c x → t ≡ x
  tokens_one t x h k =
      let f = h.why.stops in
      let g = k.why.stops in
      let bytes : f.bytes ≡ g.bytes = one_told c f.bytes g.bytes known f.are g.are in
      let list : f.tokens ≡ g.tokens = one_list g.bytes f.tokens g.tokens (subst (λ (z : List ℕ). AreTokens z f.tokens) bytes f.cut) g.cut in
      let words : told f.bytes f.tokens ≡ told g.bytes g.tokens = ap (λ (z : List ℕ). told z f.tokens) bytes ∙ ap (told g.bytes) list in
      let fault : f.fault ≡ g.fault =
      one_refusal (told g.bytes g.tokens) f.fault g.fault (subst (λ (w : List Told). Refuses w f.fault) words f.is) g.is f.none g.none in
      let tells : TellsTokens g.bytes g.tokens g.fault h.why.more =
      subst (λ (z : ParseFault). TellsTokens g.bytes g.tokens z h.why.more) fault
      (subst (λ (z : List Token). TellsTokens g.bytes z f.fault h.why.more) list
      (subst (λ (z : List ℕ). TellsTokens z f.tokens f.fault h.why.more) bytes h.why.tells)) in
      let more : h.why.more ≡ k.why.more = one_tokens g.bytes g.tokens g.fault h.why.more k.why.more tells k.why.tells in
      let follows : TokensCould g.bytes g.tokens g.fault h.could =
      subst (λ (z : ParseFault). TokensCould g.bytes g.tokens z h.could) fault
      (subst (λ (z : List Token). TokensCould g.bytes z f.fault h.could) list
      (subst (λ (z : List ℕ). TokensCould z f.tokens f.fault h.could) bytes h.follows)) in
      let could : h.could ≡ k.could = one_tokens_could g.bytes g.tokens g.fault h.could k.could follows k.follows in
      let place : parse_place f.bytes f.tokens f.fault ≡ parse_place g.bytes g.tokens g.fault =
      ap (λ (z : List ℕ). parse_place z f.tokens f.fault) bytes ∙ ap (λ (z : List Token). parse_place g.bytes z f.fault) list
      ∙ ap (parse_place g.bytes g.tokens) fault in
      h.text ∙ ap (λ (z : List ℕ). fault_object z (parse_place f.bytes f.tokens f.fault) h.could h.why.more) (same_line h.why.line k.why.line (inr f) (inr g))
      ∙ ap (λ (z : Option (Pos × ℕ)). fault_object k.why.line z h.could h.why.more) place
      ∙ ap (λ (z : List Sort). fault_object k.why.line (parse_place g.bytes g.tokens g.fault) z h.why.more) could
      ∙ ap (fault_object k.why.line (parse_place g.bytes g.tokens g.fault) k.could) more ∙ sym k.text

  not_both : (t x : List ℕ) → HasTextFound c t → HasTokensFound c x → ⊥
  not_both t x h k =
      let f = h.why.stops in
      let g = k.why.stops in
      let bytes : g.bytes ≡ f.bytes = one_told c g.bytes f.bytes known g.are f.are in
      f.none (no_tokens f.bytes f.fault g.tokens f.is (subst (λ (z : List ℕ). AreTokens z g.tokens) bytes g.cut))

  faults_one : (t x : List ℕ) → HasFaultFound c t → HasFaultFound c x → t ≡ x
  faults_one t x (inl h) (inl k) = texts_one t x h k
  faults_one t x (inl h) (inr k) = absurd (not_both t x h k)
  faults_one t x (inr h) (inl k) = absurd (not_both x t k h)
  faults_one t x (inr h) (inr k) = tokens_one t x h k

  one_stop_text : (R : Type 0) (s : Status) (t x : List ℕ) → CheckStops R c s t → CheckStops R c s x → t ≡ x
  one_stop_text R status.Done t x h k = absurd h
  one_stop_text R status.Refused t x h k = absurd h
  one_stop_text R status.Syntax t x h k = faults_one t x h k
  one_stop_text R status.Starts t x h k = absurd h
  one_stop_text R status.Usage t x h k = absurd h
  one_stop_text R status.ReadFault t x h k = h.1 ∙ sym k.1
  one_stop_text R status.WriteFault t x h k = absurd h
  one_stop_text R status.TooLong t x h k = h.1 ∙ sym k.1
  one_stop_text R status.Budget t x h k = absurd h
  one_stop_text R status.Disagree t x h k = absurd h
  one_stop_text R status.Unfinished t x h k = absurd h
  one_stop_text R status.Memory t x h k = absurd h
  one_stop_text R status.Rejected t x h k = absurd h

-- ---- what `why` tells of the same file

fault_told : (c : Option (Option (List ℕ))) (t : List ℕ) → HasFaultFound c t → (m : List ℕ) × HasFaultTold c m
fault_told c t (inl h) = (h.lines, inl h.why)
fault_told c t (inr h) = (h.lines, inr h.why)

stop_told : (R : Type 0) (c : Option (Option (List ℕ))) (s : Status) (t : List ℕ) → CheckStops R c s t → (m : List ℕ) × WhyStops R c s m
stop_told R c status.Done t h = absurd h
stop_told R c status.Refused t h = absurd h
stop_told R c status.Syntax t h = fault_told c t h
stop_told R c status.Starts t h = absurd h
stop_told R c status.Usage t h = absurd h
stop_told R c status.ReadFault t h = (read_fault_line program, (h.0, refl))
stop_told R c status.WriteFault t h = absurd h
stop_told R c status.TooLong t h = (too_long_line program, (h.0, refl))
stop_told R c status.Budget t h = absurd h
stop_told R c status.Disagree t h = absurd h
stop_told R c status.Unfinished t h = absurd h
stop_told R c status.Memory t h = absurd h
stop_told R c status.Rejected t h = absurd h

pub found_stops : (c : Option (Option (List ℕ))) (p : Syntax) (s : Status) (t : List ℕ) → FoundStops c p s t → (s ≡ status.Refused) × HasReasonFound c p t
found_stops c p status.Done t h = absurd h
found_stops c p status.Refused t h = (refl, h)
found_stops c p status.Syntax t h = absurd h
found_stops c p status.Starts t h = absurd h
found_stops c p status.Usage t h = absurd h
found_stops c p status.ReadFault t h = absurd h
found_stops c p status.WriteFault t h = absurd h
found_stops c p status.TooLong t h = absurd h
found_stops c p status.Budget t h = absurd h
found_stops c p status.Disagree t h = absurd h
found_stops c p status.Unfinished t h = absurd h
found_stops c p status.Memory t h = absurd h
found_stops c p status.Rejected t h = absurd h

reason_told : (c : Option (Option (List ℕ))) (p : Syntax) (s : Status) (t : List ℕ) → FoundStops c p s t → (m : List ℕ) × ReasonStops c p s m
reason_told c p status.Done t h = absurd h
reason_told c p status.Refused t h = (h.lines, h.why)
reason_told c p status.Syntax t h = absurd h
reason_told c p status.Starts t h = absurd h
reason_told c p status.Usage t h = absurd h
reason_told c p status.ReadFault t h = absurd h
reason_told c p status.WriteFault t h = absurd h
reason_told c p status.TooLong t h = absurd h
reason_told c p status.Budget t h = absurd h
reason_told c p status.Disagree t h = absurd h
reason_told c p status.Unfinished t h = absurd h
reason_told c p status.Memory t h = absurd h
reason_told c p status.Rejected t h = absurd h

found_told : (c : Option (Option (List ℕ))) (p : Syntax) (s : Status) (t : List ℕ) → IsFound c p s t
    → (m : List ℕ) × Then (ReasonStops c p) (Types p) (λ q. HasChecked p) s m
found_told c p s t (inl h) = let told = reason_told c p s t h in (told.0, inl told.1)
found_told c p s t (inr (q, types, h)) = (accepted_line (count (plan_of p)) (mitigates (plan_of p)), inr (q, types, (h.0, refl)))

-- `check` ends as `why` does
pub answer_told : (Rises : List ℕ → Type 0) (content : Content) (file : List ℕ) (s : Status) (t : List ℕ) → IsCheckAnswer Rises content file s t
    → (m : List ℕ) × IsWhyAnswer Rises content file s m
answer_told Rises content file s t (inl h) = let told = stop_told (Rises file) (content file) s t h in (told.0, inl told.1)
answer_told Rises content file s t (inr (p, reads, h)) = let told = found_told (content file) p s t h in (told.0, inr (p, reads, told.1))

-- ---- one answer at most

is_told : {c : Option (Option (List ℕ))} {p : Syntax} {t : List ℕ} (h : HasReason c p t) → IsTold (refused_of h.refused) (fault_of h.refused) h.chain
is_told h = record { reason = h.reason; cheapest = h.cheapest; earliest = h.earliest }

one_labelling : (p : Syntax) (t x : List ℕ) → IsOrder p.order → (f : HasNoType p t) (g : HasNoType p x) → f.labels ≡ g.labels
one_labelling p t x o f g = one_least p o f.labels g.labels f.least g.least

one_broken : (p : Syntax) (t x : List ℕ) → IsOrder p.order → (f : HasNoType p t) (g : HasNoType p x) → fault_of f ≡ fault_of g
one_broken p t x o f g =
    let labels : f.labels ≡ g.labels = one_labelling p t x o f g in
    let same : Some (fault_of f) ≡ Some (fault_of g) =
    sym f.first ∙ ap (λ (l : Labelling). first_broken_of (record { program = p; labels = l })) labels ∙ g.first in
    cc

one_reason : (c : Option (Option (List ℕ))) (p : Syntax) (t x : List ℕ) → IsKnown c → IsOrder p.order → HasReasonFound c p t → HasReasonFound c p x → t ≡ x
one_reason c p t x known o found other =
    let h = found.why in
    let k = other.why in
    let bytes : h.source.bytes ≡ k.source.bytes = one_told c h.source.bytes k.source.bytes known h.source.are k.source.are in
    let tokens : h.source.tokens ≡ k.source.tokens =
    one_list k.source.bytes h.source.tokens k.source.tokens (subst (λ (z : List ℕ). AreTokens z h.source.tokens) bytes h.source.cut) k.source.cut in
    let fault : fault_of h.refused ≡ fault_of k.refused = one_broken p h.line k.line o h.refused k.refused in
    let chain : h.chain ≡ k.chain =
    told_one (refused_of k.refused) (fault_of k.refused) h.chain k.chain
    (subst (λ (z : Labelling). IsTold (record { program = p; labels = z }) (fault_of k.refused) h.chain) (one_labelling p h.line k.line o h.refused k.refused)
    (subst (λ (z : TypeFault). IsTold (refused_of h.refused) z h.chain) fault (is_told h))) (is_told k) in
    found.text
    ∙ ap (λ (z : List ℕ). refused_object z h.source.tokens p (fault_of h.refused) h.chain) bytes
    ∙ ap (λ (z : List Token). refused_object k.source.bytes z p (fault_of h.refused) h.chain) tokens
    ∙ ap (λ (z : TypeFault). refused_object k.source.bytes k.source.tokens p z h.chain) fault
    ∙ ap (refused_object k.source.bytes k.source.tokens p (fault_of k.refused)) chain
    ∙ sym other.text

typable : (p : Syntax) (q : LabelledProgram) → Types p q → IsTypable p
typable p q k =
    let program : q.program ≡ p = k.program in
    (q.labels, k.least.labels, subst HasType (same_labelled q.program p q.labels q.labels program refl) k.typed)

found_one : (c : Option (Option (List ℕ))) (p : Syntax) (s u : Status) (t x : List ℕ) → IsKnown c → IsOrder p.order → IsFound c p s t → IsFound c p u x
    → Same s u t x
found_one c p s u t x known o (inl h) (inl k) =
    let one = found_stops c p s t h in
    let other = found_stops c p u x k in
    (one.0 ∙ sym other.0, one_reason c p t x known o one.1 other.1)
found_one c p s u t x known o (inl h) (inr k) =
    let can = typable p k.0 k.1 in
    absurd ((found_stops c p s t h).1.why.refused.none can.0 can.1 can.2)
found_one c p s u t x known o (inr h) (inl k) =
    let can = typable p h.0 h.1 in
    absurd ((found_stops c p u x k).1.why.refused.none can.0 can.1 can.2)
found_one c p s u t x known o (inr h) (inr k) = (h.2.0 ∙ sym k.2.0, h.2.1 ∙ sym k.2.1)

one_stop : (R : Type 0) (c : Option (Option (List ℕ))) (s u : Status) (t x : List ℕ) → (R → ⊥) → IsKnown c → CheckStops R c s t → CheckStops R c u x
    → Same s u t x
one_stop R c s u t x n known h k =
    let one = stop_told R c s t h in
    let other = stop_told R c u x k in
    let same : s ≡ u = (why_one s u one.0 other.0 R c (λ p v y. ⊥) n known (λ p o e. absurd e) (inl one.1) (inl other.1)).0 in
    (same, one_stop_text c known R s t x h (subst (λ (z : Status). CheckStops R c z x) (sym same) k))

pub one_check : (Rises : List ℕ → Type 0) (content : Content) (file : List ℕ) (s u : Status) (t x : List ℕ) → (Rises file → ⊥) → IsKnown (content file)
    → IsCheckAnswer Rises content file s t → IsCheckAnswer Rises content file u x → Same s u t x
one_check Rises content file s u t x n known =
    let c = content file in
    let R = Rises file in
    then_one (CheckStops R c) (Reads c) (λ p. IsFound c p) s u t x (one_stop R c s u t x n known)
    (λ p v y r h. let told = stop_told R c v y h in why_goes R c p v told.0 n known r told.1) (one_program c known)
    (λ p r. found_one c p s u t x known (program_order _ p r.spelled))
