-- What audits begin with, and what stops them before.
use Rattle.std.proofs.Common.{◌≡◌, ◌<◌, ℕ, List, All, Option, Some, None, inl, inr, refl, sym, subst, ◌∙◌}
use Rattle.std.specs.Prelude.{IsSome}
use Rattle.label_lattice.specs.declared.label.Label.{Label}
use Rattle.label_lattice.specs.Order.{Order}
use Rattle.mit_syntax.specs.Program.{Syntax}
use Rattle.timing_types.specs.Labelled.{LabelledProgram}
use Rattle.label_code.specs.Shaped.{Code}
use Rattle.start_file.specs.Starts.{StartValue, IsFor}
use Rattle.tool_texts.specs.declared.status.Status.{Status}
use Rattle.tool_texts.specs.declared.stop.Stop.{Stop}
use Rattle.tool_texts.specs.Ends.{IsStop, status_of, stop_text}
use Rattle.tool_stages.specs.Stages.{Then, ProgramStops, StartStops, StartsAre, Observes, Reads, Types, ImageStops}
use Rattle.tool_stages.specs.Content.{Content}
use Rattle.tool_stages.specs.Begins.{Prepares, NoMore, ProgramCompileStops, CompileStops, PrepareStops, IsCompiled, HasCompiled, IsPrepared, CanAudit}
use Rattle.tool_texts.proofs.EndLemmas.{broke_map}
use Rattle.tool_stages.proofs.StartLemmas.{count_given}
use Rattle.tool_stages.proofs.StopLemmas.{compiles_map, compiled_goes, start_rise}

-- ---- an image

pub compiled_of : (content : Content) (file : List ℕ) (observer : Option (List ℕ)) (p : Syntax) (q : LabelledProgram) (o : Option Label) (code : Code)
    → Reads (content file) p → IsCompiled p observer q o code → HasCompiled content file observer q o code
compiled_of content file observer p q o code reads h = record { program = p; reads = reads; observes = h.observes; types = h.types; image = h.image }

pub program_stops : (Rises : List ℕ → Type 0) (content : Content) (file : List ℕ) (observer : Option (List ℕ)) (p : Syntax) (e : Stop) → Reads (content file) p
    → IsStop (ProgramCompileStops p observer) e → IsStop (CompileStops Rises content file observer) e
program_stops Rises content file observer p e reads h =
    broke_map (ProgramCompileStops p observer) (CompileStops Rises content file observer) (status_of e) (stop_text e) (λ k. inr (p, reads, k)) h

-- the image stops
pub image_stops_program : (observer : Option (List ℕ)) (p : Syntax) (order : Order) (o : Option Label) (q : LabelledProgram) (e : Stop)
    → order ≡ p.order → Observes order observer o → Types p q → IsStop (ImageStops q) e → IsStop (ProgramCompileStops p observer) e
image_stops_program observer p order o q e is sees types h =
    let seen : Observes p.order observer o = subst (λ (z : Order). Observes z observer o) is sees in
    broke_map (ImageStops q) (ProgramCompileStops p observer) (status_of e) (stop_text e) (λ k. inr (o, seen, inr (q, types, inl k))) h

-- ---- an observer

pub names_label : (order : Order) (w : List ℕ) (o : Option Label) → Observes order (Some w) o → (l : Label) × (o ≡ Some l)
names_label order w None h = absurd h
names_label order w (Some l) h = (l, refl)

pub names_some : (order : Order) (w : List ℕ) (o : Option Label) → Observes order (Some w) o → IsSome o
names_some order w None h = absurd h
names_some order w (Some l) h = refl

-- ---- starts

abbrev starts_next : Type 0 → Option (Option (List ℕ)) → (Syntax → LabelledProgram → Option Label → Code → List StartValue → Status → List ℕ → Type 0) → Syntax
    → LabelledProgram → Option Label → Code → Status → List ℕ → Type 0
starts_next R starts Next p q o code = Then (StartStops R starts p) (StartsAre starts p) (λ ss. Next p q o code ss)

-- what stops the image stops the audit
pub compile_stops_audit : (Rises : List ℕ → Type 0) (content : Content) (file observer : List ℕ) (R : Type 0) (starts : Option (Option (List ℕ))) (e : Stop)
    → IsStop (CompileStops Rises content file (Some observer)) e → IsStop (PrepareStops Rises content file observer R starts) e
compile_stops_audit Rises content file observer R starts e h =
    broke_map (CompileStops Rises content file (Some observer)) (PrepareStops Rises content file observer R starts) (status_of e) (stop_text e)
    (compiles_map Rises content file (Some observer) (λ p q o code. NoMore) (starts_next R starts (λ p q o code ss. NoMore)) (status_of e) (stop_text e)
    (λ p q o code n. absurd n)) h

-- a program that is none stops the audit
pub program_stops_audit : (Rises : List ℕ → Type 0) (content : Content) (file observer : List ℕ) (R : Type 0) (starts : Option (Option (List ℕ))) (e : Stop)
    → IsStop (ProgramStops (Rises file) (content file)) e → IsStop (PrepareStops Rises content file observer R starts) e
program_stops_audit Rises content file observer R starts e h =
    broke_map (ProgramStops (Rises file) (content file)) (PrepareStops Rises content file observer R starts) (status_of e) (stop_text e) (λ k. inl k) h

-- the starts stop the audit
pub starts_stop_audit : (Rises : List ℕ → Type 0) (content : Content) (file observer : List ℕ) (R R' : Type 0) (held starts : Option (Option (List ℕ)))
    (q : LabelledProgram) (o : Option Label) (code : Code) (p : Syntax) (e : Stop)
    → (R → R') → held ≡ starts → p ≡ q.program → HasCompiled content file (Some observer) q o code
    → IsStop (StartStops R held p) e → IsStop (PrepareStops Rises content file observer R' starts) e
starts_stop_audit Rises content file observer R R' held starts q o code p e f same is h stop =
    let at : IsStop (StartStops R starts h.program) e =
    subst (λ (z : Syntax). IsStop (StartStops R starts z) e) (is ∙ h.types.program)
    (subst (λ (z : Option (Option (List ℕ))). IsStop (StartStops R z p) e) same stop) in
    broke_map (StartStops R starts h.program) (PrepareStops Rises content file observer R' starts) (status_of e) (stop_text e)
    (λ k. compiled_goes Rises content file (Some observer) q o code (starts_next R' starts (λ p q o code ss. NoMore)) (status_of e) (stop_text e) h
    (inl (start_rise R R' starts h.program (status_of e) (stop_text e) f k))) at

pub prepared_of : (content : Content) (file observer : List ℕ) (held starts : Option (Option (List ℕ))) (q : LabelledProgram) (o : Option Label) (l : Label)
    (code : Code) (p : Syntax) (ss : List StartValue)
    → o ≡ Some l → held ≡ starts → p ≡ q.program → HasCompiled content file (Some observer) q o code → StartsAre held p ss
    → IsPrepared content file observer starts q l code ss
prepared_of content file observer held starts q o l code p ss names same is h are =
    record {
      compiled = subst (λ (z : Option Label). HasCompiled content file (Some observer) q z code) names h;
      starts = subst (λ (z : Syntax). StartsAre starts z ss) is (subst (λ (z : Option (Option (List ℕ))). StartsAre z p ss) same are);
    }

pub audit_fits : (content : Content) (file observer : List ℕ) (starts : Option (Option (List ℕ))) (q : LabelledProgram) (l : Label) (code : Code)
    (p : Syntax) (ss : List StartValue)
    → IsPrepared content file observer starts q l code ss → p ≡ q.program → All (IsFor p) ss → CanAudit q l code ss
audit_fits content file observer starts q l code p ss h is fits =
    let n = count_given starts q.program ss h.starts in
    record {
      image = h.compiled.image.0;
      observer = subst (λ (z : Syntax). l.number < z.order.size) (sym h.compiled.types.program) h.compiled.observes.0;
      some = n.0;
      few = n.1;
      starts = subst (λ (z : Syntax). All (IsFor z) ss) is fits;
    }

-- ---- what comes after

pub prepares_map : (Rises : List ℕ → Type 0) (content : Content) (file observer : List ℕ) (R : Type 0) (starts : Option (Option (List ℕ)))
    (Next Next' : Syntax → LabelledProgram → Option Label → Code → List StartValue → Status → List ℕ → Type 0) (s : Status) (t : List ℕ)
    → ((p : Syntax) (q : LabelledProgram) (o : Option Label) (code : Code) (ss : List StartValue) → Next p q o code ss s t → Next' p q o code ss s t)
    → Prepares Rises content file observer R starts Next s t → Prepares Rises content file observer R starts Next' s t
prepares_map Rises content file observer R starts Next Next' s t f =
    compiles_map Rises content file (Some observer) (starts_next R starts Next) (starts_next R starts Next') s t
    (λ p q o code. after p q o code)
  where
    after : (p : Syntax) (q : LabelledProgram) (o : Option Label) (code : Code) → starts_next R starts Next p q o code s t
        → starts_next R starts Next' p q o code s t
    after p q o code (inl h) = inl h
    after p q o code (inr h) = inr (h.0, h.1, f p q o code h.0 h.2)

pub prepared_goes : (Rises : List ℕ → Type 0) (content : Content) (file observer : List ℕ) (R : Type 0) (starts : Option (Option (List ℕ)))
    (q : LabelledProgram) (l : Label) (code : Code) (ss : List StartValue)
    (Next : Syntax → LabelledProgram → Option Label → Code → List StartValue → Status → List ℕ → Type 0) (s : Status) (t : List ℕ)
    → IsPrepared content file observer starts q l code ss → Next q.program q (Some l) code ss s t → Prepares Rises content file observer R starts Next s t
prepared_goes Rises content file observer R starts q l code ss Next s t h n =
    let c = h.compiled in
    let at : Next c.program q (Some l) code ss s t = subst (λ (z : Syntax). Next z q (Some l) code ss s t) c.types.program n in
    let are : StartsAre starts c.program ss = subst (λ (z : Syntax). StartsAre starts z ss) c.types.program h.starts in
    compiled_goes Rises content file (Some observer) q (Some l) code (starts_next R starts Next) s t c (inr (ss, are, at))

-- what stops before the audit stops the command
pub prepare_stops : (Rises : List ℕ → Type 0) (content : Content) (file observer : List ℕ) (R : Type 0) (starts : Option (Option (List ℕ)))
    (Next : Syntax → LabelledProgram → Option Label → Code → List StartValue → Status → List ℕ → Type 0) (e : Stop)
    → IsStop (PrepareStops Rises content file observer R starts) e → IsStop (Prepares Rises content file observer R starts Next) e
prepare_stops Rises content file observer R starts Next e h =
    broke_map (PrepareStops Rises content file observer R starts) (Prepares Rises content file observer R starts Next) (status_of e) (stop_text e)
    (prepares_map Rises content file observer R starts (λ p q o code ss. NoMore) Next (status_of e) (stop_text e) (λ p q o code ss n. absurd n)) h

-- what stops the audit stops the command
pub audit_stops : (Rises : List ℕ → Type 0) (content : Content) (file observer : List ℕ) (R : Type 0) (starts : Option (Option (List ℕ))) (q : LabelledProgram)
    (l : Label) (code : Code) (ss : List StartValue) (Next : Syntax → LabelledProgram → Option Label → Code → List StartValue → Status → List ℕ → Type 0)
    (e : Stop)
    → IsPrepared content file observer starts q l code ss → IsStop (Next q.program q (Some l) code ss) e
    → IsStop (Prepares Rises content file observer R starts Next) e
audit_stops Rises content file observer R starts q l code ss Next e h stop =
    broke_map (Next q.program q (Some l) code ss) (Prepares Rises content file observer R starts Next) (status_of e) (stop_text e)
    (prepared_goes Rises content file observer R starts q l code ss Next (status_of e) (stop_text e) h) stop
