-- Stages that do not stop: what a stage gives, and what excludes each of its stops.
use Rattle.std.proofs.Common.{◌≡◌, ◌≤◌, ℕ, List, ◌∷◌, length, Option, Some, None, Ok, Err, inl, inr, sym, ap, subst, ◌∙◌, arith}
use Rattle.std.proofs.lemmas.Option.{none-some}
use Rattle.tim_base.specs.Told.{limit, IsTold, IsTooLong}
use Rattle.label_lattice.specs.declared.label.Label.{Label}
use Rattle.label_lattice.specs.Order.{Order}
use Rattle.mit_syntax.specs.Cut.{AreTokens}
use Rattle.mit_syntax.specs.Program.{Syntax}
use Rattle.mit_syntax.proofs.OneFault.{no_tokens}
use Rattle.mit_syntax.proofs.OneList.{one_list}
use Rattle.mit_parser.specs.Words.{Told, told}
use Rattle.mit_parser.specs.Spells.{Refuses}
use Rattle.parse_laws.proofs.Refused.{not_refused}
use Rattle.parse_laws.proofs.Meant.{program_spelled}
use Rattle.start_file.specs.Starts.{StartValue, Gives}
use Rattle.start_file.proofs.OneAnswer.{one_answer}
use Rattle.timing_types.specs.Labelled.{LabelledProgram}
use Rattle.code_lower.specs.Lowered.{lowered}
use Rattle.type_cert.specs.Certificate.{IsCertificate}
use Rattle.black_box.specs.Files.{refusal}
use Rattle.tool_texts.specs.declared.status.Status.{Status}
use Rattle.tool_texts.specs.declared.status.Status.TheVariants as status
use Rattle.tool_texts.specs.Texts.{program, starts, ready, certificate}
use Rattle.tool_stages.specs.Stages.{Then, Reads, HasTextFault, HasParseFault, ProgramStops, Observes, IsUnknown, ObserverStops, TypeStops, ImageStops}
use Rattle.tool_stages.specs.Stages.{StartsAre, HasStartFault, StartStops, FirstStart, ReadyStops, HasReadyFault, HoldsCertificate, HasWrongLine}
use Rattle.tool_stages.specs.Stages.{CertificateStops}
use Rattle.tool_stages.specs.Content.{IsKnown}
use Rattle.tool_stages.specs.Goes.{IsTypable}
use Rattle.tool_stages.proofs.StageStops.{BadText, file_goes, program_stops, observer_stops, type_stops, image_stops, start_stops, ready_stops}
use Rattle.tool_stages.proofs.StageStops.{certificate_stops}

-- a stage that does not stop
pub then_goes : {A : Type 0} (Stops : Status → List ℕ → Type 0) (Gives : A → Type 0) (Next : A → Status → List ℕ → Type 0) (s : Status) (t : List ℕ)
    → (Stops s t → ⊥) → ((a : A) → Gives a → Next a s t → s ≡ status.Done) → Then Stops Gives Next s t → s ≡ status.Done
then_goes Stops Gives Next s t f g (inl h) = absurd (f h)
then_goes Stops Gives Next s t f g (inr h) = g h.0 h.1 h.2

-- a stage that does not stop, and gives one value at most
pub then_goes_from : {A : Type 0} (Stops : Status → List ℕ → Type 0) (Gives : A → Type 0) (Next : A → Status → List ℕ → Type 0) (s : Status) (t : List ℕ)
    (a : A) → Gives a → ((a b : A) → Gives a → Gives b → a ≡ b) → (Stops s t → ⊥) → (Next a s t → s ≡ status.Done) → Then Stops Gives Next s t → s ≡ status.Done
then_goes_from Stops Gives Next s t a given one f g (inl h) = absurd (f h)
then_goes_from Stops Gives Next s t a given one f g (inr h) =
    let same : h.0 ≡ a = one h.0 a h.1 given in
    g (subst (λ z. Next z s t) same h.2)

-- ---- files

-- bytes are told
pub one_told : (c : Option (Option (List ℕ))) (a b : List ℕ) → IsKnown c → IsTold c a → IsTold c b → a ≡ b
one_told (Some (Some xs)) a b h s t = s ∙ sym t
one_told (Some None) a b h s t = absurd h
one_told None a b h s t = absurd h

pub not_long : (c : Option (Option (List ℕ))) (bytes : List ℕ) → IsKnown c → IsTold c bytes → length bytes ≤ limit → IsTooLong c → ⊥
not_long (Some (Some xs)) bytes h is short l = let same : bytes ≡ xs = is in omega (arith, ap length same, short, l)
not_long (Some None) bytes h is short l = h
not_long None bytes h is short l = h

-- ---- a program

no_text_fault : (c : Option (Option (List ℕ))) (p : Syntax) (t : List ℕ) → IsKnown c → Reads c p → HasTextFault c t → ⊥
no_text_fault c p t known r f =
    let same : r.bytes ≡ f.bytes = one_told c r.bytes f.bytes known r.are f.are in
    f.none (no_tokens f.bytes f.fault r.tokens f.is (subst (λ (z : List ℕ). AreTokens z r.tokens) same r.cut))

no_parse_fault : (c : Option (Option (List ℕ))) (p : Syntax) (t : List ℕ) → IsKnown c → Reads c p → HasParseFault c t → ⊥
no_parse_fault c p t known r f =
    let same : f.bytes ≡ r.bytes = one_told c f.bytes r.bytes known f.are r.are in
    let list : f.tokens ≡ r.tokens = one_list r.bytes f.tokens r.tokens (subst (λ (z : List ℕ). AreTokens z f.tokens) same f.cut) r.cut in
    let words : told f.bytes f.tokens ≡ told r.bytes r.tokens = ap (λ (z : List ℕ). told z f.tokens) same ∙ ap (told r.bytes) list in
    f.none (not_refused (told r.bytes r.tokens) (program_spelled (told r.bytes r.tokens) p r.spelled) f.fault
    (subst (λ (w : List Told). Refuses w f.fault) words f.is))

no_bad_text : (c : Option (Option (List ℕ))) (p : Syntax) (t : List ℕ) → IsKnown c → Reads c p → BadText c t → ⊥
no_bad_text c p t known r (inl f) = no_text_fault c p t known r f
no_bad_text c p t known r (inr f) = no_parse_fault c p t known r f

pub program_goes : (R : Type 0) (c : Option (Option (List ℕ))) (p : Syntax) (s : Status) (t : List ℕ) → (R → ⊥) → IsKnown c
    → Reads c p → ProgramStops R c s t → ⊥
program_goes R c p s t n known r h =
    file_goes R program c (BadText c) status.Syntax s t n (not_long c r.bytes known r.are r.short) (no_bad_text c p t known r) (program_stops R c s t h)

-- ---- an observer

not_unknown : (o : Order) (w : Option (List ℕ)) (l : Option Label) → Observes o w l → IsUnknown o w → ⊥
not_unknown o None l h u = u
not_unknown o (Some w) None h u = h
not_unknown o (Some w) (Some l) h u = u l.number h.0 h.1

pub observer_goes : (o : Order) (w : Option (List ℕ)) (l : Option Label) (s : Status) (t : List ℕ) → Observes o w l → ObserverStops o w s t → ⊥
observer_goes o w l s t k h = not_unknown o w l k (observer_stops o w s t h).1

-- ---- labels and an image

pub typing_goes : (p : Syntax) (s : Status) (t : List ℕ) → IsTypable p → TypeStops p s t → ⊥
typing_goes p s t k h = (type_stops p s t h).1.none k.0 k.1 k.2

pub image_goes : (q : LabelledProgram) (s : Status) (t : List ℕ) → length (lowered q).instrs ≤ 200000 → ImageStops q s t → ⊥
image_goes q s t k h = let more = (image_stops q s t h).1 in omega (arith, more, k)

-- ---- starts

no_start_fault : (c : Option (Option (List ℕ))) (p : Syntax) (ss : List StartValue) (t : List ℕ) → IsKnown c → StartsAre c p ss → HasStartFault c p t → ⊥
no_start_fault c p ss t known r f =
    let same : f.bytes ≡ r.0 = one_told c f.bytes r.0 known f.are r.1 in
    let e = one_answer p r.0 (Err f.fault) (Ok ss) (subst (λ (z : List ℕ). Gives p z (Err f.fault)) same f.is) r.3 in
    absurd (cc e)

pub starts_go : (R : Type 0) (c : Option (Option (List ℕ))) (p : Syntax) (ss : List StartValue) (s : Status) (t : List ℕ) → (R → ⊥) → IsKnown c
    → StartsAre c p ss → StartStops R c p s t → ⊥
starts_go R c p ss s t n known r h =
    file_goes R starts c (HasStartFault c p) status.Starts s t n (not_long c r.0 known r.1 r.2) (no_start_fault c p ss t known r) (start_stops R c p s t h)

-- ---- a file of ready cycles

no_ready_fault : (c : Option (Option (List ℕ))) (bytes t : List ℕ) → IsKnown c → IsTold c bytes → refusal bytes ≡ None → HasReadyFault c t → ⊥
no_ready_fault c bytes t known are none f =
    let same : f.bytes ≡ bytes = one_told c f.bytes bytes known f.are are in
    none-some f.fault (sym none ∙ ap refusal (sym same) ∙ f.is)

pub ready_goes : (R : Type 0) (c : Option (Option (List ℕ))) (bytes : List ℕ) (s : Status) (t : List ℕ) → (R → ⊥) → IsKnown c → IsTold c bytes
    → length bytes ≤ limit → refusal bytes ≡ None → ReadyStops R c s t → ⊥
ready_goes R c bytes s t n known are short k h =
    file_goes R ready c (HasReadyFault c) status.Starts s t n (not_long c bytes known are short) (no_ready_fault c bytes t known are k) (ready_stops R c s t h)

-- ---- a certificate

-- a program with a labelling
abbrev with_program : LabelledProgram → Syntax → LabelledProgram
with_program q p = record { program = p; labels = q.labels }

no_wrong_line : (c : Option (Option (List ℕ))) (p : Syntax) (q : LabelledProgram) (t : List ℕ) → IsKnown c → HoldsCertificate c p q → HasWrongLine c p t → ⊥
no_wrong_line c p q t known k f =
    let same : k.bytes ≡ f.bytes = one_told c k.bytes f.bytes known k.are f.are in
    let is : IsCertificate (with_program q p) k.bytes = subst (λ (z : Syntax). IsCertificate (with_program q z) k.bytes) k.program k.certifies in
    f.first.none q.labels (subst (λ (z : List ℕ). IsCertificate (with_program q p) z) same is)

pub certificate_goes : (R : Type 0) (c : Option (Option (List ℕ))) (p : Syntax) (q : LabelledProgram) (s : Status) (t : List ℕ) → (R → ⊥) → IsKnown c
    → HoldsCertificate c p q → CertificateStops R c p s t → ⊥
certificate_goes R c p q s t n known k h =
    file_goes R certificate c (HasWrongLine c p) status.Rejected s t n (not_long c k.bytes known k.are k.short) (no_wrong_line c p q t known k)
    (certificate_stops R c p s t h)

-- ---- a first start of files that are read later

pub first_at : (content content' : List ℕ → Option (Option (List ℕ))) (starts : Option (List ℕ)) (p p' : Syntax) (start : StartValue)
    → ((name : List ℕ) → content name ≡ content' name) → p ≡ p'
    → FirstStart content starts p start → FirstStart content' starts p' start
first_at content content' None p p' start same is h = subst (λ (z : Syntax). FirstStart content' None z start) is h
first_at content content' (Some name) p p' start same is h =
    let at : StartsAre (content' name) p (start ∷ h.0) = subst (λ (c : Option (Option (List ℕ))). StartsAre c p (start ∷ h.0)) (same name) h.1 in
    (h.0, subst (λ (z : Syntax). StartsAre (content' name) z (start ∷ h.0)) is at)
