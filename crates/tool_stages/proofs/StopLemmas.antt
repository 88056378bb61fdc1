-- What stages stop with.
use Rattle.std.proofs.Common.{◌≡◌, ◌≤◌, ℕ, List, Option, Some, None, inl, inr, subst, arith}
use Rattle.label_lattice.specs.declared.label.Label.{Label}
use Rattle.label_lattice.specs.Order.{Order}
use Rattle.mit_syntax.specs.Program.{Syntax}
use Rattle.timing_types.specs.Labelled.{LabelledProgram}
use Rattle.label_code.specs.Shaped.{Code}
use Rattle.tim_base.specs.Faults.{Rose}
use Rattle.tool_texts.specs.declared.status.Status.{Status}
use Rattle.tool_texts.specs.declared.status.Status.TheVariants.{Done, Refused, Syntax as BadSyntax, Starts, Usage, ReadFault, WriteFault, TooLong, Budget}
use Rattle.tool_texts.specs.declared.status.Status.TheVariants.{Disagree, Unfinished, Memory, Rejected}
use Rattle.tool_texts.specs.declared.stop.Stop.{Stop}
use Rattle.tool_texts.specs.Ends.{IsStop, status_of, stop_text}
use Rattle.tool_stages.specs.Stages.{Then, ProgramStops, ImageStops, StartStops, FirstStops, FirstStart, Reads, Observes, Types, CertificateStops}
use Rattle.tool_stages.specs.Content.{Content}
use Rattle.tool_stages.specs.Begins.{Compiles, NoMore, CompileStops, RunStops, MeaningStops, HasCompiled}
use Rattle.tool_texts.proofs.EndLemmas.{broke_map}

pub then_map : {A : Type 0} (Stops : Status → List ℕ → Type 0) (Gives : A → Type 0) (Next Next' : A → Status → List ℕ → Type 0) (s : Status) (t : List ℕ)
    → ((a : A) → Next a s t → Next' a s t) → Then Stops Gives Next s t → Then Stops Gives Next' s t
then_map Stops Gives Next Next' s t f (inl h) = inl h
then_map Stops Gives Next Next' s t f (inr (a, g, h)) = inr (a, g, f a h)

program_rise : (R R' : Type 0) (c : Option (Option (List ℕ))) (s : Status) (t : List ℕ) → (R → R') → ProgramStops R c s t → ProgramStops R' c s t
program_rise R R' c Done t f h = h
program_rise R R' c Refused t f h = h
program_rise R R' c BadSyntax t f h = h
program_rise R R' c Starts t f h = h
program_rise R R' c Usage t f h = h
program_rise R R' c ReadFault t f h = (f h.0, h.1)
program_rise R R' c WriteFault t f h = h
program_rise R R' c TooLong t f h = h
program_rise R R' c Budget t f h = h
program_rise R R' c Disagree t f h = h
program_rise R R' c Unfinished t f h = h
program_rise R R' c Memory t f h = h
program_rise R R' c Rejected t f h = h

compiles_rise : (Rises Rises' : List ℕ → Type 0) (content : Content) (file : List ℕ) (observer : Option (List ℕ))
    (Next : Syntax → LabelledProgram → Option Label → Code → Status → List ℕ → Type 0) (s : Status) (t : List ℕ)
    → (Rises file → Rises' file) → Compiles Rises content file observer Next s t → Compiles Rises' content file observer Next s t
compiles_rise Rises Rises' content file observer Next s t f (inl h) = inl (program_rise _ _ _ s t f h)
compiles_rise Rises Rises' content file observer Next s t f (inr h) = inr h

abbrev pub starts_next : (List ℕ → Type 0) → Content → Option (List ℕ) → Syntax → LabelledProgram → Option Label → Code → Status → List ℕ → Type 0
starts_next Rises content starts p q o code = Then (FirstStops Rises content starts p) (FirstStart content starts p) (λ start. NoMore)

pub compiles_map : (Rises : List ℕ → Type 0) (content : Content) (file : List ℕ) (observer : Option (List ℕ))
    (Next Next' : Syntax → LabelledProgram → Option Label → Code → Status → List ℕ → Type 0) (s : Status) (t : List ℕ)
    → ((p : Syntax) (q : LabelledProgram) (o : Option Label) (code : Code) → Next p q o code s t → Next' p q o code s t)
    → Compiles Rises content file observer Next s t → Compiles Rises content file observer Next' s t
compiles_map Rises content file observer Next Next' s t f (inl h) = inl h
compiles_map Rises content file observer Next Next' s t f (inr (p, reads, inl h)) = inr (p, reads, inl h)
compiles_map Rises content file observer Next Next' s t f (inr (p, reads, inr (o, sees, inl h))) = inr (p, reads, inr (o, sees, inl h))
compiles_map Rises content file observer Next Next' s t f (inr (p, reads, inr (o, sees, inr (q, types, inl h)))) =
    inr (p, reads, inr (o, sees, inr (q, types, inl h)))
compiles_map Rises content file observer Next Next' s t f (inr (p, reads, inr (o, sees, inr (q, types, inr (code, image, h))))) =
    inr (p, reads, inr (o, sees, inr (q, types, inr (code, image, f p q o code h))))

-- where there is an image, what stops after it
pub compiled_goes : (Rises : List ℕ → Type 0) (content : Content) (file : List ℕ) (observer : Option (List ℕ)) (q : LabelledProgram) (o : Option Label)
    (code : Code) (Next : Syntax → LabelledProgram → Option Label → Code → Status → List ℕ → Type 0) (s : Status) (t : List ℕ)
    → (h : HasCompiled content file observer q o code) → Next h.program q o code s t → Compiles Rises content file observer Next s t
compiled_goes Rises content file observer q o code Next s t h n = inr (h.program, h.reads, inr (o, h.observes, inr (q, h.types, inr (code, h.image, n))))

-- the image stops
pub image_stops : (Rises : List ℕ → Type 0) (content : Content) (file : List ℕ) (observer : Option (List ℕ)) (p : Syntax) (order : Order) (o : Option Label)
    (q : LabelledProgram) (e : Stop)
    → Reads (content file) p → order ≡ p.order → Observes order observer o → Types p q → IsStop (ImageStops q) e
    → IsStop (CompileStops Rises content file observer) e
image_stops Rises content file observer p order o q e reads is sees types h =
    let seen : Observes p.order observer o = subst (λ (z : Order). Observes z observer o) is sees in
    broke_map (ImageStops q) (CompileStops Rises content file observer) (status_of e) (stop_text e)
    (λ k. inr (p, reads, inr (o, seen, inr (q, types, inl k)))) h

-- what stops the image stops the run
pub compile_stops : (Rises Rises' : List ℕ → Type 0) (content : Content) (file : List ℕ) (starts observer : Option (List ℕ)) (e : Stop)
    → (Rises file → Rises' file) → IsStop (CompileStops Rises content file observer) e → IsStop (RunStops Rises' content file starts observer) e
compile_stops Rises Rises' content file starts observer e rise h =
    broke_map (CompileStops Rises content file observer) (RunStops Rises' content file starts observer) (status_of e) (stop_text e)
    (λ k. compiles_rise Rises Rises' content file observer (starts_next Rises' content starts) (status_of e) (stop_text e) rise
    (compiles_map Rises content file observer (λ p q o code. NoMore) (starts_next Rises' content starts) (status_of e) (stop_text e)
    (λ p q o code n. absurd n) k)) h

-- the starts stop the run
pub first_stops : (Rises : List ℕ → Type 0) (content : Content) (file : List ℕ) (starts observer : Option (List ℕ)) (q : LabelledProgram)
    (o : Option Label) (code : Code) (e : Stop)
    → HasCompiled content file observer q o code → IsStop (FirstStops Rises content starts q.program) e → IsStop (RunStops Rises content file starts observer) e
first_stops Rises content file starts observer q o code e h stop =
    let at : IsStop (FirstStops Rises content starts h.program) e = subst (λ (z : Syntax). IsStop (FirstStops Rises content starts z) e) h.types.program stop in
    broke_map (FirstStops Rises content starts h.program) (RunStops Rises content file starts observer) (status_of e) (stop_text e)
    (λ k. compiled_goes Rises content file observer q o code (starts_next Rises content starts) (status_of e) (stop_text e) h (inl k)) at

-- ---- a file that is read later

-- a count that rose later rose
pub rose_since : (a b c : ℕ) → a ≤ b → Rose b c → Rose a c
rose_since a b c l h = omega (arith, l, h)

pub start_rise : (R R' : Type 0) (c : Option (Option (List ℕ))) (p : Syntax) (s : Status) (t : List ℕ) → (R → R') → StartStops R c p s t → StartStops R' c p s t
start_rise R R' c p Done t f h = h
start_rise R R' c p Refused t f h = h
start_rise R R' c p BadSyntax t f h = h
start_rise R R' c p Starts t f h = h
start_rise R R' c p Usage t f h = h
start_rise R R' c p ReadFault t f h = (f h.0, h.1)
start_rise R R' c p WriteFault t f h = h
start_rise R R' c p TooLong t f h = h
start_rise R R' c p Budget t f h = h
start_rise R R' c p Disagree t f h = h
start_rise R R' c p Unfinished t f h = h
start_rise R R' c p Memory t f h = h
start_rise R R' c p Rejected t f h = h

pub certificate_rise : (R R' : Type 0) (c : Option (Option (List ℕ))) (p : Syntax) (s : Status) (t : List ℕ) → (R → R') → CertificateStops R c p s t
    → CertificateStops R' c p s t
certificate_rise R R' c p Done t f h = h
certificate_rise R R' c p Refused t f h = h
certificate_rise R R' c p BadSyntax t f h = h
certificate_rise R R' c p Starts t f h = h
certificate_rise R R' c p Usage t f h = h
certificate_rise R R' c p ReadFault t f h = (f h.0, h.1)
certificate_rise R R' c p WriteFault t f h = h
certificate_rise R R' c p TooLong t f h = h
certificate_rise R R' c p Budget t f h = h
certificate_rise R R' c p Disagree t f h = h
certificate_rise R R' c p Unfinished t f h = h
certificate_rise R R' c p Memory t f h = h
certificate_rise R R' c p Rejected t f h = h

first_rise : (Rises Rises' : List ℕ → Type 0) (content content' : Content) (starts : Option (List ℕ)) (p : Syntax) (s : Status) (t : List ℕ)
    → ((name : List ℕ) → Rises name → Rises' name) → ((name : List ℕ) → content name ≡ content' name)
    → FirstStops Rises content starts p s t → FirstStops Rises' content' starts p s t
first_rise Rises Rises' content content' None p s t f e h = h
first_rise Rises Rises' content content' (Some name) p s t f e h =
    subst (λ (c : Option (Option (List ℕ))). StartStops (Rises' name) c p s t) (e name) (start_rise (Rises name) (Rises' name) (content name) p s t (f name) h)

pub later_first_stops : (Rises Rises' : List ℕ → Type 0) (content content' : Content) (file : List ℕ) (starts observer : Option (List ℕ)) (q : LabelledProgram)
    (o : Option Label) (code : Code) (p : Syntax) (e : Stop)
    → ((name : List ℕ) → Rises name → Rises' name) → ((name : List ℕ) → content name ≡ content' name) → p ≡ q.program
    → HasCompiled content' file observer q o code
    → IsStop (FirstStops Rises content starts p) e → IsStop (RunStops Rises' content' file starts observer) e
later_first_stops Rises Rises' content content' file starts observer q o code p e f same is h stop =
    let at : IsStop (FirstStops Rises content starts q.program) e = subst (λ (z : Syntax). IsStop (FirstStops Rises content starts z) e) is stop in
    first_stops Rises' content' file starts observer q o code e h
    (broke_map (FirstStops Rises content starts q.program) (FirstStops Rises' content' starts q.program) (status_of e) (stop_text e)
    (first_rise Rises Rises' content content' starts q.program (status_of e) (stop_text e) f same) at)

-- ---- a run without its time

pub source_first_stops : (Rises Rises' : List ℕ → Type 0) (content content' : Content) (file : List ℕ) (starts : Option (List ℕ)) (p : Syntax) (e : Stop)
    → ((name : List ℕ) → Rises name → Rises' name) → ((name : List ℕ) → content name ≡ content' name) → Reads (content' file) p
    → IsStop (FirstStops Rises content starts p) e → IsStop (MeaningStops Rises' content' file starts) e
source_first_stops Rises Rises' content content' file starts p e f same reads stop =
    broke_map (FirstStops Rises content starts p) (MeaningStops Rises' content' file starts) (status_of e) (stop_text e)
    (λ k. inr (p, reads, inl (first_rise Rises Rises' content content' starts p (status_of e) (stop_text e) f same k))) stop
