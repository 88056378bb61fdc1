-- One answer at most: what a stage gives, and what it stops with, is one.
use Rattle.std.proofs.Common.{◌≡◌, ◌≤◌, ℕ, List, length, Option, Some, Ok, Err, inl, inr, refl, sym, ap, subst, ◌∙◌}
use Rattle.tim_base.specs.Told.{IsTold, IsTooLong}
use Rattle.label_lattice.specs.Order.{Order, IsOrder}
use Rattle.mit_syntax.specs.declared.token.Token.{Token}
use Rattle.mit_syntax.specs.Cut.{AreTokens, IsFault}
use Rattle.mit_syntax.specs.Program.{Syntax}
use Rattle.mit_syntax.proofs.OneFault.{no_tokens, one_fault}
use Rattle.mit_syntax.proofs.OneList.{one_list}
use Rattle.mit_parser.specs.declared.fault.ParseFault.{ParseFault}
use Rattle.mit_parser.specs.Words.{Told, told}
use Rattle.mit_parser.specs.Spells.{IsProgram, Refuses}
use Rattle.parse_laws.proofs.Meant.{one_meaning}
use Rattle.parse_laws.proofs.OneRefusal.{one_refusal}
use Rattle.start_file.specs.Starts.{StartValue, Gives}
use Rattle.start_file.proofs.OneAnswer.{one_answer}
use Rattle.timing_types.specs.Labelling.{Labelling}
use Rattle.timing_types.specs.Labelled.{LabelledProgram, HasType, first_broken_of}
use Rattle.timing_types.specs.declared.rule.TypeFault.TheVariants.{Refused as BrokenAt}
use Rattle.label_infer.proofs.OneLeast.{one_least, one_labelled}
use Rattle.label_code.specs.Shaped.{Code}
use Rattle.code_lower.specs.Lowered.{lowered}
use Rattle.type_cert.specs.Certificate.{IsFirstWrong}
use Rattle.type_cert.proofs.FirstWrong.{one_wrong}
use Rattle.black_box.specs.Files.{refusal}
use Rattle.tool_texts.specs.declared.status.Status.{Status}
use Rattle.tool_texts.specs.declared.status.Status.TheVariants as status
use Rattle.tool_texts.specs.Texts.{File, program, starts, ready, certificate, text_fault_line, parse_fault_line, start_fault_line, refused_line}
use Rattle.tool_texts.specs.Texts.{rejected_line, header_name}
use Rattle.tool_texts.specs.Reports.{ready_fault_line}
use Rattle.tool_stages.specs.Stages.{Then, Reads, ProgramStops, ObserverStops, Types, HasNoType, TypeStops, HasImage, ImageStops, StartsAre, HasStartFault}
use Rattle.tool_stages.specs.Stages.{StartStops, HoldsRuns, HasReadyFault, ReadyStops, HasWrongLine, CertificateStops}
use Rattle.tool_stages.specs.Content.{IsKnown}
use Rattle.tool_stages.proofs.StageStops.{FileBreaks, BadText, program_stops, observer_stops, type_stops, image_stops, start_stops, ready_stops}
use Rattle.tool_stages.proofs.StageStops.{certificate_stops}
use Rattle.tool_stages.proofs.GoesLemmas.{one_told, not_long, image_goes, ready_goes}

-- two answers are one
abbrev pub Same : Status → Status → List ℕ → List ℕ → Type 0
Same s u t x = (s ≡ u) × (t ≡ x)

-- a stage that stops with one answer, gives one value, and does not do both
pub then_one : {A : Type 0} (Stops : Status → List ℕ → Type 0) (Gives : A → Type 0) (Next : A → Status → List ℕ → Type 0) (s u : Status) (t x : List ℕ)
    → (Stops s t → Stops u x → Same s u t x) → ((a : A) (v : Status) (y : List ℕ) → Gives a → Stops v y → ⊥) → ((a b : A) → Gives a → Gives b → a ≡ b)
    → ((a : A) → Gives a → Next a s t → Next a u x → Same s u t x) → Then Stops Gives Next s t → Then Stops Gives Next u x → Same s u t x
then_one Stops Gives Next s u t x stop not one next (inl h) (inl k) = stop h k
then_one Stops Gives Next s u t x stop not one next (inl h) (inr k) = absurd (not k.0 s t k.1 h)
then_one Stops Gives Next s u t x stop not one next (inr h) (inl k) = absurd (not h.0 u x h.1 k)
then_one Stops Gives Next s u t x stop not one next (inr h) (inr k) =
    let same : k.0 ≡ h.0 = one k.0 h.0 k.1 h.1 in
    next h.0 h.1 h.2 (subst (λ z. Next z u x) same k.2)

-- a stage after which there is one answer, whatever it gives
pub then_same : {A : Type 0} (Stops : Status → List ℕ → Type 0) (Gives : A → Type 0) (Next : Status → List ℕ → Type 0) (s u : Status) (t x : List ℕ)
    → (Stops s t → Stops u x → Same s u t x) → ((a : A) (v : Status) (y : List ℕ) → Gives a → Stops v y → ⊥)
    → (Next s t → Next u x → Same s u t x) → Then Stops Gives (λ a. Next) s t → Then Stops Gives (λ a. Next) u x → Same s u t x
then_same Stops Gives Next s u t x stop not next (inl h) (inl k) = stop h k
then_same Stops Gives Next s u t x stop not next (inl h) (inr k) = absurd (not k.0 s t k.1 h)
then_same Stops Gives Next s u t x stop not next (inr h) (inl k) = absurd (not h.0 u x h.1 k)
then_same Stops Gives Next s u t x stop not next (inr h) (inr k) = next h.2 k.2

-- ---- a file

-- a file that is read stops with one fault at most, and a faulty file is not too long
file_stop : (R : Type 0) (f : File) (c : Option (Option (List ℕ))) (Faulty : List ℕ → Type 0) (v s u : Status) (t x : List ℕ)
    → (R → ⊥) → ((t : List ℕ) → Faulty t → IsTooLong c → ⊥) → ((t x : List ℕ) → Faulty t → Faulty x → t ≡ x) → FileBreaks R f c Faulty v s t
    → FileBreaks R f c Faulty v u x → Same s u t x
file_stop R f c Faulty v s u t x n short one (inl h) k = absurd (n h.1)
file_stop R f c Faulty v s u t x n short one (inr h) (inl k) = absurd (n k.1)
file_stop R f c Faulty v s u t x n short one (inr (inl h)) (inr (inl k)) = (h.0 ∙ sym k.0, h.2 ∙ sym k.2)
file_stop R f c Faulty v s u t x n short one (inr (inl h)) (inr (inr k)) = absurd (short x k.1 h.1)
file_stop R f c Faulty v s u t x n short one (inr (inr h)) (inr (inl k)) = absurd (short t h.1 k.1)
file_stop R f c Faulty v s u t x n short one (inr (inr h)) (inr (inr k)) = (h.0 ∙ sym k.0, one t x h.1 k.1)

-- ---- a program

module _ (c : Option (Option (List ℕ))) (known : IsKnown c) where
  text_not_long : (t : List ℕ) → BadText c t → IsTooLong c → ⊥
  text_not_long t (inl f) l = not_long c f.bytes known f.are f.short l
  text_not_long t (inr f) l = not_long c f.bytes known f.are f.short l

  same_words : (a b : List ℕ) (ts us : List Token) → IsTold c a → IsTold c b → AreTokens a ts → AreTokens b us → (a ≡ b) × (ts ≡ us) × (told a ts ≡ told b us)
  same_words a b ts us h k cut cut' =
      let bytes : a ≡ b = one_told c a b known h k in
      let list : ts ≡ us = one_list b ts us (subst (λ (z : List ℕ). AreTokens z ts) bytes cut) cut' in
      (bytes, list, ap (λ (z : List ℕ). told z ts) bytes ∙ ap (told b) list)

  one_text : (t x : List ℕ) → BadText c t → BadText c x → t ≡ x
  one_text t x (inl f) (inl g) =
      let bytes : f.bytes ≡ g.bytes = one_told c f.bytes g.bytes known f.are g.are in
      let same : f.fault ≡ g.fault = one_fault g.bytes f.fault g.fault (subst (λ (z : List ℕ). IsFault z f.fault) bytes f.is) g.is f.none g.none in
      f.line ∙ ap text_fault_line same ∙ sym g.line
  one_text t x (inl f) (inr g) =
      let bytes : g.bytes ≡ f.bytes = one_told c g.bytes f.bytes known g.are f.are in
      absurd (f.none (no_tokens f.bytes f.fault g.tokens f.is (subst (λ (z : List ℕ). AreTokens z g.tokens) bytes g.cut)))
  one_text t x (inr f) (inl g) =
      let bytes : f.bytes ≡ g.bytes = one_told c f.bytes g.bytes known f.are g.are in
      absurd (g.none (no_tokens g.bytes g.fault f.tokens g.is (subst (λ (z : List ℕ). AreTokens z f.tokens) bytes f.cut)))
  one_text t x (inr f) (inr g) =
      let same = same_words f.bytes g.bytes f.tokens g.tokens f.are g.are f.cut g.cut in
      let fault : f.fault ≡ g.fault =
      one_refusal (told g.bytes g.tokens) f.fault g.fault (subst (λ (w : List Told). Refuses w f.fault) same.2 f.is) g.is f.none g.none in
      let line : parse_fault_line (header_name f.bytes f.tokens) f.fault ≡ parse_fault_line (header_name g.bytes g.tokens) g.fault =
      ap (λ (z : List ℕ). parse_fault_line (header_name z f.tokens) f.fault) same.0
      ∙ ap (λ (z : List Token). parse_fault_line (header_name g.bytes z) f.fault) same.1
      ∙ ap (λ (z : ParseFault). parse_fault_line (header_name g.bytes g.tokens) z) fault in
      f.line ∙ line ∙ sym g.line

  pub one_program : (p q : Syntax) → Reads c p → Reads c q → p ≡ q
  one_program p q r r' =
      let same = same_words r.bytes r'.bytes r.tokens r'.tokens r.are r'.are r.cut r'.cut in
      one_meaning (told r'.bytes r'.tokens) p q (subst (λ (w : List Told). IsProgram w p) same.2 r.spelled) r'.spelled

  pub one_program_stop : (R : Type 0) (s u : Status) (t x : List ℕ) → (R → ⊥) → ProgramStops R c s t → ProgramStops R c u x → Same s u t x
  one_program_stop R s u t x n h k =
      file_stop R program c (BadText c) status.Syntax s u t x n text_not_long one_text (program_stops R c s t h) (program_stops R c u x k)

-- ---- an observer

pub one_observer_stop : (o : Order) (w : Option (List ℕ)) (s u : Status) (t x : List ℕ) → ObserverStops o w s t → ObserverStops o w u x → Same s u t x
one_observer_stop o w s u t x h k =
    let a = observer_stops o w s t h in
    let b = observer_stops o w u x k in
    (a.0 ∙ sym b.0, a.2 ∙ sym b.2)

-- ---- labels

pub same_labelled : (p r : Syntax) (l m : Labelling) → p ≡ r → l ≡ m
    → ◌≡◌ {A = LabelledProgram} (record { program = p; labels = l }) (record { program = r; labels = m })
same_labelled p r l m e f = ap (λ z. record { program = z; labels = l }) e ∙ ap (λ z. record { program = r; labels = z }) f

pub one_typed : (p : Syntax) (a b : LabelledProgram) → IsOrder p.order → Types p a → Types p b → a ≡ b
one_typed p a b o h k = one_labelled p o a b h.program k.program h.least k.least

pub typed_or_not : (p : Syntax) (q : LabelledProgram) (s : Status) (t : List ℕ) → Types p q → TypeStops p s t → ⊥
typed_or_not p q s t k h =
    let program : q.program ≡ p = k.program in
    (type_stops p s t h).1.none q.labels k.least.labels (subst HasType (same_labelled q.program p q.labels q.labels program refl) k.typed)

one_broken : (p : Syntax) (t x : List ℕ) → IsOrder p.order → HasNoType p t → HasNoType p x → t ≡ x
one_broken p t x o f g =
    let labels : f.labels ≡ g.labels = one_least p o f.labels g.labels f.least g.least in
    let same : Some (BrokenAt f.rule f.at f.have f.allowed) ≡ Some (BrokenAt g.rule g.at g.have g.allowed) =
    sym f.first ∙ ap (λ (l : Labelling). first_broken_of (record { program = p; labels = l })) labels ∙ g.first in
    let rule : f.rule ≡ g.rule = cc in
    let at : f.at ≡ g.at = cc in
    let have : f.have ≡ g.have = cc in
    let allowed : f.allowed ≡ g.allowed = cc in
    let line : refused_line p.order f.rule f.at f.have f.allowed ≡ refused_line p.order g.rule g.at g.have g.allowed =
    ap (λ z. refused_line p.order z f.at f.have f.allowed) rule ∙ ap (λ z. refused_line p.order g.rule z f.have f.allowed) at
    ∙ ap (λ z. refused_line p.order g.rule g.at z f.allowed) have ∙ ap (λ z. refused_line p.order g.rule g.at g.have z) allowed in
    f.line ∙ line ∙ sym g.line

pub one_type_stop : (p : Syntax) (s u : Status) (t x : List ℕ) → IsOrder p.order → TypeStops p s t → TypeStops p u x → Same s u t x
one_type_stop p s u t x o h k =
    let a = type_stops p s t h in
    let b = type_stops p u x k in
    (a.0 ∙ sym b.0, one_broken p t x o a.1 b.1)

-- ---- an image

pub one_image_stop : (q : LabelledProgram) (s u : Status) (t x : List ℕ) → ImageStops q s t → ImageStops q u x → Same s u t x
one_image_stop q s u t x h k =
    let a = image_stops q s t h in
    let b = image_stops q u x k in
    (a.0 ∙ sym b.0, a.2 ∙ sym b.2)

pub image_or_not : (q : LabelledProgram) (code : Code) (s : Status) (t : List ℕ) → HasImage q code → ImageStops q s t → ⊥
image_or_not q code s t k h =
    let is : code ≡ lowered q = k.0 in
    let short : length (lowered q).instrs ≤ 200000 = subst (λ (z : Code). length z.instrs ≤ 200000) is k.1 in
    image_goes q s t short h

-- ---- starts

module _ (c : Option (Option (List ℕ))) (known : IsKnown c) (p : Syntax) where
  start_not_long : (t : List ℕ) → HasStartFault c p t → IsTooLong c → ⊥
  start_not_long t f l = not_long c f.bytes known f.are f.short l

  one_start_fault : (t x : List ℕ) → HasStartFault c p t → HasStartFault c p x → t ≡ x
  one_start_fault t x f g =
      let bytes : f.bytes ≡ g.bytes = one_told c f.bytes g.bytes known f.are g.are in
      let same : Err f.fault ≡ Err g.fault =
      one_answer p g.bytes (Err f.fault) (Err g.fault) (subst (λ (z : List ℕ). Gives p z (Err f.fault)) bytes f.is) g.is in
      let fault : f.fault ≡ g.fault = cc in
      f.line ∙ ap start_fault_line fault ∙ sym g.line

  pub one_list_of_starts : (a b : List StartValue) → StartsAre c p a → StartsAre c p b → a ≡ b
  one_list_of_starts a b h k =
      let bytes : h.0 ≡ k.0 = one_told c h.0 k.0 known h.1 k.1 in
      let same : Ok a ≡ Ok b = one_answer p k.0 (Ok a) (Ok b) (subst (λ (z : List ℕ). Gives p z (Ok a)) bytes h.3) k.3 in
      cc

  pub one_start_stop : (R : Type 0) (s u : Status) (t x : List ℕ) → (R → ⊥) → StartStops R c p s t → StartStops R c p u x → Same s u t x
  one_start_stop R s u t x n h k =
      file_stop R starts c (HasStartFault c p) status.Starts s u t x n start_not_long one_start_fault (start_stops R c p s t h) (start_stops R c p u x k)

-- ---- a file of ready cycles

module _ (c : Option (Option (List ℕ))) (known : IsKnown c) where
  one_ready_fault : (t x : List ℕ) → HasReadyFault c t → HasReadyFault c x → t ≡ x
  one_ready_fault t x f g =
      let bytes : f.bytes ≡ g.bytes = one_told c f.bytes g.bytes known f.are g.are in
      let same : Some f.fault ≡ Some g.fault = sym f.is ∙ ap refusal bytes ∙ g.is in
      let fault : f.fault ≡ g.fault = cc in
      f.line ∙ ap ready_fault_line fault ∙ sym g.line

  pub one_ready_stop : (R : Type 0) (s u : Status) (t x : List ℕ) → (R → ⊥) → ReadyStops R c s t → ReadyStops R c u x → Same s u t x
  one_ready_stop R s u t x n h k =
      file_stop R ready c (HasReadyFault c) status.Starts s u t x n (λ t f l. not_long c f.bytes known f.are f.short l) one_ready_fault
      (ready_stops R c s t h) (ready_stops R c u x k)

  pub runs_or_not : (runs : List (List ℕ)) (R : Type 0) (s : Status) (t : List ℕ) → (R → ⊥) → HoldsRuns c runs → ReadyStops R c s t → ⊥
  runs_or_not runs R s t n k h = ready_goes R c k.bytes s t n known k.are k.short k.taken h

-- ---- a certificate

module _ (c : Option (Option (List ℕ))) (known : IsKnown c) (p : Syntax) where
  one_wrong_line : (t x : List ℕ) → HasWrongLine c p t → HasWrongLine c p x → t ≡ x
  one_wrong_line t x f g =
      let bytes : f.bytes ≡ g.bytes = one_told c f.bytes g.bytes known f.are g.are in
      let same : f.number ≡ g.number = one_wrong p g.bytes f.number g.number (subst (λ (z : List ℕ). IsFirstWrong p z f.number) bytes f.first) g.first in
      f.line ∙ ap rejected_line same ∙ sym g.line

  pub one_certificate_stop : (R : Type 0) (s u : Status) (t x : List ℕ) → (R → ⊥) → CertificateStops R c p s t → CertificateStops R c p u x → Same s u t x
  one_certificate_stop R s u t x n h k =
      file_stop R certificate c (HasWrongLine c p) status.Rejected s u t x n (λ t f l. not_long c f.bytes known f.are f.short l) one_wrong_line
      (certificate_stops R c p s t h) (certificate_stops R c p u x k)
