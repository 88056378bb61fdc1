-- What questions about an accepted program begin with, and what stops them before.
use Rattle.std.proofs.Common.{◌≡◌, ◌<◌, ℕ, List, Option, Some, inl, inr, sym, subst, ◌∙◌}
use Rattle.label_lattice.specs.declared.label.Label.{Label}
use Rattle.label_lattice.specs.Order.{Order}
use Rattle.mit_syntax.specs.Program.{Syntax}
use Rattle.timing_types.specs.Labelled.{LabelledProgram}
use Rattle.label_code.specs.Shaped.{Code}
use Rattle.start_file.specs.Starts.{StartValue}
use Rattle.tool_texts.specs.declared.status.Status.{Status}
use Rattle.tool_texts.specs.declared.status.Status.TheVariants as status
use Rattle.tool_texts.specs.declared.stop.Stop.{Stop}
use Rattle.tool_texts.specs.Ends.{IsStop, status_of, stop_text}
use Rattle.tool_texts.proofs.EndLemmas.{broke_map}
use Rattle.tool_stages.specs.Stages.{Then, Observes, Reads, Types, ImageStops}
use Rattle.tool_stages.specs.Content.{Content}
use Rattle.tool_stages.specs.Begins.{NoMore, HasCompiled, CanAudit}
use Rattle.space_stage.specs.Listed.{IsListed, ListedStops, AreFitting}
use Rattle.space_stage.proofs.Listing.{listed_rise}
use Rattle.lab_runs.specs.Labels.{NamesAndCompiles, NamesAndPrepares, HasPrepared, NamedProgramStops, NamedCompileStops, NamedPrepareStops}

-- ---- an image

pub program_stops : (Rises : List ℕ → Type 0) (content : Content) (file : List ℕ) (observer : Option (List ℕ)) (p : Syntax) (e : Stop) → Reads (content file) p
    → IsStop (NamedProgramStops p observer) e → IsStop (NamedCompileStops Rises content file observer) e
program_stops Rises content file observer p e reads h =
    broke_map (NamedProgramStops p observer) (NamedCompileStops Rises content file observer) (status_of e) (stop_text e) (λ k. inr (p, reads, k)) h

-- the image stops
pub image_stops_program : (observer : Option (List ℕ)) (p : Syntax) (order : Order) (o : Option Label) (q : LabelledProgram) (e : Stop)
    → order ≡ p.order → Observes order observer o → Types p q → IsStop (ImageStops q) e → IsStop (NamedProgramStops p observer) e
image_stops_program observer p order o q e is sees types h =
    let seen : Observes p.order observer o = subst (λ (z : Order). Observes z observer o) is sees in
    broke_map (ImageStops q) (NamedProgramStops p observer) (status_of e) (stop_text e) (λ k. inr (o, seen, inr (q, types, inl k))) h

-- no stage behind the reading tells a read fault
pub never_read : (p : Syntax) (w : Option (List ℕ)) (t : List ℕ) → NamedProgramStops p w status.ReadFault t → ⊥
never_read p w t (inl h) = h
never_read p w t (inr (o, sees, inl h)) = h
never_read p w t (inr (o, sees, inr (q, types, inl h))) = h
never_read p w t (inr (o, sees, inr (q, types, inr (code, image, h)))) = h

pub compiles_map : (Rises : List ℕ → Type 0) (content : Content) (file : List ℕ) (observer : Option (List ℕ))
    (Next Next' : Syntax → LabelledProgram → Option Label → Code → Status → List ℕ → Type 0) (s : Status) (t : List ℕ)
    → ((p : Syntax) (q : LabelledProgram) (o : Option Label) (code : Code) → Next p q o code s t → Next' p q o code s t)
    → NamesAndCompiles Rises content file observer Next s t → NamesAndCompiles Rises content file observer Next' s t
compiles_map Rises content file observer Next Next' s t f (inl h) = inl h
compiles_map Rises content file observer Next Next' s t f (inr (p, reads, inl h)) = inr (p, reads, inl h)
compiles_map Rises content file observer Next Next' s t f (inr (p, reads, inr (o, sees, inl h))) = inr (p, reads, inr (o, sees, inl h))
compiles_map Rises content file observer Next Next' s t f (inr (p, reads, inr (o, sees, inr (q, types, inl h)))) =
    inr (p, reads, inr (o, sees, inr (q, types, inl h)))
compiles_map Rises content file observer Next Next' s t f (inr (p, reads, inr (o, sees, inr (q, types, inr (code, image, h))))) =
    inr (p, reads, inr (o, sees, inr (q, types, inr (code, image, f p q o code h))))

-- where there is an image, what stops after it
pub compiled_goes : (Rises : List ℕ → Type 0) (content : Content) (file : List ℕ) (observer : Option (List ℕ)) (q : LabelledProgram) (o : Option Label)
    (code : Code) (Next : Syntax → LabelledProgram → Option Label → Code → Status → List ℕ → Type 0) (s : Status) (t : List ℕ)
    → (h : HasCompiled content file observer q o code) → Next h.program q o code s t → NamesAndCompiles Rises content file observer Next s t
compiled_goes Rises content file observer q o code Next s t h n = inr (h.program, h.reads, inr (o, h.observes, inr (q, h.types, inr (code, h.image, n))))

-- ---- starts

abbrev starts_next : Type 0 → Option (Option (List ℕ)) → (Syntax → LabelledProgram → Option Label → Code → List StartValue → Status → List ℕ → Type 0) → Syntax
    → LabelledProgram → Option Label → Code → Status → List ℕ → Type 0
starts_next R starts Next p q o code = Then (ListedStops R starts p) (IsListed starts p) (λ ss. Next p q o code ss)

-- what stops the image stops the question
pub compile_stops_audit : (Rises : List ℕ → Type 0) (content : Content) (file observer : List ℕ) (R : Type 0) (starts : Option (Option (List ℕ))) (e : Stop)
    → IsStop (NamedCompileStops Rises content file (Some observer)) e → IsStop (NamedPrepareStops Rises content file observer R starts) e
compile_stops_audit Rises content file observer R starts e h =
    broke_map (NamedCompileStops Rises content file (Some observer)) (NamedPrepareStops Rises content file observer R starts) (status_of e) (stop_text e)
    (compiles_map Rises content file (Some observer) (λ p q o code. NoMore) (starts_next R starts (λ p q o code ss. NoMore)) (status_of e) (stop_text e)
    (λ p q o code n. absurd n)) h

-- the starts stop the question
pub starts_stop_audit : (Rises : List ℕ → Type 0) (content : Content) (file observer : List ℕ) (R R' : Type 0) (held starts : Option (Option (List ℕ)))
    (q : LabelledProgram) (o : Option Label) (code : Code) (p : Syntax) (e : Stop)
    → (R → R') → held ≡ starts → p ≡ q.program → HasCompiled content file (Some observer) q o code
    → IsStop (ListedStops R held p) e → IsStop (NamedPrepareStops Rises content file observer R' starts) e
starts_stop_audit Rises content file observer R R' held starts q o code p e f same is h stop =
    let at : IsStop (ListedStops R starts h.program) e =
    subst (λ (z : Syntax). IsStop (ListedStops R starts z) e) (is ∙ h.types.program)
    (subst (λ (z : Option (Option (List ℕ))). IsStop (ListedStops R z p) e) same stop) in
    broke_map (ListedStops R starts h.program) (NamedPrepareStops Rises content file observer R' starts) (status_of e) (stop_text e)
    (λ k. compiled_goes Rises content file (Some observer) q o code (starts_next R' starts (λ p q o code ss. NoMore)) (status_of e) (stop_text e) h
    (inl (listed_rise R R' starts h.program (status_of e) (stop_text e) f k))) at

pub prepared_of : (content : Content) (file observer : List ℕ) (held starts : Option (Option (List ℕ))) (q : LabelledProgram) (o : Option Label) (l : Label)
    (code : Code) (p : Syntax) (ss : List StartValue)
    → o ≡ Some l → held ≡ starts → p ≡ q.program → HasCompiled content file (Some observer) q o code → IsListed held p ss
    → HasPrepared content file observer starts q l code ss
prepared_of content file observer held starts q o l code p ss names same is h are =
    record {
      compiled = subst (λ (z : Option Label). HasCompiled content file (Some observer) q z code) names h;
      starts = subst (λ (z : Syntax). IsListed starts z ss) is (subst (λ (z : Option (Option (List ℕ))). IsListed z p ss) same are);
    }

pub audit_fits : (content : Content) (file observer : List ℕ) (starts : Option (Option (List ℕ))) (q : LabelledProgram) (l : Label) (code : Code)
    (p : Syntax) (ss : List StartValue)
    → HasPrepared content file observer starts q l code ss → p ≡ q.program → AreFitting p ss → CanAudit q l code ss
audit_fits content file observer starts q l code p ss h is fits =
    let at : AreFitting q.program ss = subst (λ (z : Syntax). AreFitting z ss) is fits in
    record {
      image = h.compiled.image.0;
      observer = subst (λ (z : Syntax). l.number < z.order.size) (sym h.compiled.types.program) h.compiled.observes.0;
      some = at.some;
      few = at.few;
      starts = at.starts;
    }

-- ---- what comes after

pub prepares_map : (Rises : List ℕ → Type 0) (content : Content) (file observer : List ℕ) (R : Type 0) (starts : Option (Option (List ℕ)))
    (Next Next' : Syntax → LabelledProgram → Option Label → Code → List StartValue → Status → List ℕ → Type 0) (s : Status) (t : List ℕ)
    → ((p : Syntax) (q : LabelledProgram) (o : Option Label) (code : Code) (ss : List StartValue) → Next p q o code ss s t → Next' p q o code ss s t)
    → NamesAndPrepares Rises content file observer R starts Next s t → NamesAndPrepares Rises content file observer R starts Next' s t
prepares_map Rises content file observer R starts Next Next' s t f =
    compiles_map Rises content file (Some observer) (starts_next R starts Next) (starts_next R starts Next') s t
    (λ p q o code. after p q o code)
  where
    after : (p : Syntax) (q : LabelledProgram) (o : Option Label) (code : Code) → starts_next R starts Next p q o code s t
        → starts_next R starts Next' p q o code s t
    after p q o code (inl h) = inl h
    after p q o code (inr h) = inr (h.0, h.1, f p q o code h.0 h.2)

pub prepared_goes : (Rises : List ℕ → Type 0) (content : Content) (file observer : List ℕ) (R : Type 0) (starts : Option (Option (List ℕ)))
    (q : LabelledProgram) (l : Label) (code : Code) (ss : List StartValue)
    (Next : Syntax → LabelledProgram → Option Label → Code → List StartValue → Status → List ℕ → Type 0) (s : Status) (t : List ℕ)
    → HasPrepared content file observer starts q l code ss → Next q.program q (Some l) code ss s t
    → NamesAndPrepares Rises content file observer R starts Next s t
prepared_goes Rises content file observer R starts q l code ss Next s t h n =
    let c = h.compiled in
    let at : Next c.program q (Some l) code ss s t = subst (λ (z : Syntax). Next z q (Some l) code ss s t) c.types.program n in
    let are : IsListed starts c.program ss = subst (λ (z : Syntax). IsListed starts z ss) c.types.program h.starts in
    compiled_goes Rises content file (Some observer) q (Some l) code (starts_next R starts Next) s t c (inr (ss, are, at))

-- what stops before the question's own part stops it
pub prepare_stops : (Rises : List ℕ → Type 0) (content : Content) (file observer : List ℕ) (R : Type 0) (starts : Option (Option (List ℕ)))
    (Next : Syntax → LabelledProgram → Option Label → Code → List StartValue → Status → List ℕ → Type 0) (e : Stop)
    → IsStop (NamedPrepareStops Rises content file observer R starts) e → IsStop (NamesAndPrepares Rises content file observer R starts Next) e
prepare_stops Rises content file observer R starts Next e h =
    broke_map (NamedPrepareStops Rises content file observer R starts) (NamesAndPrepares Rises content file observer R starts Next)
    (status_of e) (stop_text e)
    (prepares_map Rises content file observer R starts (λ p q o code ss. NoMore) Next (status_of e) (stop_text e) (λ p q o code ss n. absurd n)) h

-- and so does what stops its own part
pub audit_stops : (Rises : List ℕ → Type 0) (content : Content) (file observer : List ℕ) (R : Type 0) (starts : Option (Option (List ℕ))) (q : LabelledProgram)
    (l : Label) (code : Code) (ss : List StartValue) (Next : Syntax → LabelledProgram → Option Label → Code → List StartValue → Status → List ℕ → Type 0)
    (e : Stop)
    → HasPrepared content file observer starts q l code ss → IsStop (Next q.program q (Some l) code ss) e
    → IsStop (NamesAndPrepares Rises content file observer R starts Next) e
audit_stops Rises content file observer R starts q l code ss Next e h stop =
    broke_map (Next q.program q (Some l) code ss) (NamesAndPrepares Rises content file observer R starts Next) (status_of e) (stop_text e)
    (prepared_goes Rises content file observer R starts q l code ss Next (status_of e) (stop_text e) h) stop
