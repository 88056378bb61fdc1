-- Where a shelf does not tell what files hold, stages answer as by some bytes that they hold.
use Rattle.std.proofs.Common.{◌≡◌, ℕ, List, ◌∷◌, Option, Some, None, Bool, true, false, cond, refl, sym, ap, subst, ◌∙◌}
use Rattle.std.specs.Prelude.{IsSome, bytes_eq}
use Rattle.std.proofs.lemmas.Bool.{cond-true, cond-false}
use Rattle.std.proofs.lemmas.Slice.Eq.{bytes_eq-Decides}
use Rattle.label_lattice.specs.declared.label.Label.{Label}
use Rattle.mit_syntax.specs.Program.{Syntax}
use Rattle.timing_types.specs.Labelled.{LabelledProgram}
use Rattle.label_code.specs.Shaped.{Code}
use Rattle.start_file.specs.Starts.{StartValue}
use Rattle.tool_texts.specs.declared.status.Status.{Status}
use Rattle.tool_texts.specs.declared.status.Status.TheVariants as status
use Rattle.tool_stages.specs.Stages.{Then, Reads, ProgramStops, Observes, ObserverStops, Types, TypeStops, HasImage, ImageStops, StartsAre, StartStops}
use Rattle.tool_stages.specs.Stages.{FirstStart, FirstStops, ReadyStops, HoldsRuns, CertificateStops, Rechecks}
use Rattle.tool_texts.specs.Ends.{Tells, EndsBy}
use Rattle.mit_tool.specs.Held.{Held, told_all, HoldsTold}
use Rattle.mit_tool.proofs.HeldLemmas.{Fits, held_of, fits_held, reads_held, runs_held, program_stop_held, ready_stop_held, then_held}
use Rattle.mit_tool.proofs.HeldLemmas.{then_later, compiles_later, starts_then_held, first_then_held, certificate_then_held, held_with}
use Rattle.tool_stages.specs.Content.{Content}

-- ---- what the files of a command hold

is_same : (a b : List ℕ) → bytes_eq a b ≡ true → a ≡ b
is_same a b = (bytes_eq-Decides a b).0

same_is : (a : List ℕ) → bytes_eq a a ≡ true
same_is a = (bytes_eq-Decides a a).1 refl

some_is : (c : Option (Option (List ℕ))) → IsSome c → (x : Option (List ℕ)) × (c ≡ Some x)
some_is None e = cc
some_is (Some x) e = (x, refl)

module _ (content : Content) (file : List ℕ) (h : Option (List ℕ)) (other : List ℕ) (k : Option (List ℕ)) where
  first_held : held_with content file h other k file ≡ h
  first_held = cond-true (bytes_eq file file) h (cond (bytes_eq file other) k (held_of (content file))) (same_is file)

  module _ (fits : Fits (content file) h) (fits' : Fits (content other) k) where
    second_held : (file ≡ other → IsSome (content file)) → held_with content file h other k other ≡ k
    second_held alike = by_test (bytes_eq other file) refl
      where
        by_test : (b : Bool) → bytes_eq other file ≡ b → held_with content file h other k other ≡ k
        by_test true e =
            let same : other ≡ file = is_same other file e in
            let told = some_is (content file) (alike (sym same)) in
            let one : h ≡ told.0 = fits told.0 told.1 in
            let two : k ≡ told.0 = fits' told.0 (ap content same ∙ told.1) in
            cond-true (bytes_eq other file) h (cond (bytes_eq other other) k (held_of (content other))) e ∙ one ∙ sym two
        by_test false e =
            cond-false (bytes_eq other file) h (cond (bytes_eq other other) k (held_of (content other))) e
            ∙ cond-true (bytes_eq other other) k (held_of (content other)) (same_is other)

    all_held : HoldsTold content (held_with content file h other k)
    all_held name x told = by_test (bytes_eq name file) refl
      where
        or_other : (b : Bool) → bytes_eq name other ≡ b → cond (bytes_eq name other) k (held_of (content name)) ≡ x
        or_other true e =
            cond-true (bytes_eq name other) k (held_of (content name)) e ∙ fits' x (ap content (sym (is_same name other e)) ∙ told)
        or_other false e = cond-false (bytes_eq name other) k (held_of (content name)) e ∙ fits_held (content name) x told

        by_test : (b : Bool) → bytes_eq name file ≡ b → held_with content file h other k name ≡ x
        by_test true e =
            cond-true (bytes_eq name file) h (cond (bytes_eq name other) k (held_of (content name))) e
            ∙ fits x (ap content (sym (is_same name file e)) ∙ told)
        by_test false e =
            cond-false (bytes_eq name file) h (cond (bytes_eq name other) k (held_of (content name))) e ∙ or_other (bytes_eq name other) refl

-- what is so of the bytes of one file is so of a content
pub one_file : (content : Content) (file : List ℕ) (P : Option (Option (List ℕ)) → Type 0) → (h : Option (List ℕ)) × Fits (content file) h × P (Some h)
    → (held : Held) × HoldsTold content held × P (told_all held file)
one_file content file P (h, fits, is) =
    (held_with content file h file h, all_held content file h file h fits fits, subst (λ z. P (Some z)) (sym (first_held content file h file h)) is)

-- and of two
pub two_files : (content : Content) (file other : List ℕ) (P : Option (Option (List ℕ)) → Option (Option (List ℕ)) → Type 0) (h k : Option (List ℕ))
    → Fits (content file) h → Fits (content other) k → (file ≡ other → IsSome (content file)) → P (Some h) (Some k)
    → (held : Held) × HoldsTold content held × P (told_all held file) (told_all held other)
two_files content file other P h k fits fits' alike is = (
  held_with content file h other k,
  all_held content file h other k fits fits',
  subst (λ z. P (Some z) (Some (held_with content file h other k other))) (sym (first_held content file h other k))
      (subst (λ z. P (Some h) (Some z)) (sym (second_held content file h other k fits fits' alike)) is),
)

-- ---- from a file to what comes after it

program_then_held : (R : Type 0) (c : Option (Option (List ℕ))) (Next : Syntax → Status → List ℕ → Type 0) (s : Status) (t : List ℕ)
    → Then (ProgramStops R c) (Reads c) Next s t → (h : Option (List ℕ)) × Fits c h × Then (ProgramStops R (Some h)) (Reads (Some h)) Next s t
program_then_held R c Next s t = then_held c (ProgramStops R) Reads Next s t (program_stop_held R c s t) (reads_held c)

ready_then_held : (R : Type 0) (c : Option (Option (List ℕ))) (Next : List (List ℕ) → Status → List ℕ → Type 0) (s : Status) (t : List ℕ)
    → Then (ReadyStops R c) (HoldsRuns c) Next s t → (h : Option (List ℕ)) × Fits c h × Then (ReadyStops R (Some h)) (HoldsRuns (Some h)) Next s t
ready_then_held R c Next s t = then_held c (ReadyStops R) HoldsRuns Next s t (ready_stop_held R c s t) (runs_held c)

-- a file's text to an image, and the rest
abbrev CompilesFrom : Type 0 → Option (Option (List ℕ)) → Option (List ℕ) → (Syntax → LabelledProgram → Option Label → Code → Status → List ℕ → Type 0) → Status
    → List ℕ → Type 0
CompilesFrom R c observer Next =
    Then (ProgramStops R c) (Reads c) (λ p.
    Then (ObserverStops p.order observer) (Observes p.order observer) (λ o.
    Then (TypeStops p) (Types p) (λ q.
    Then (ImageStops q) (HasImage q) (λ code.
    Next p q o code))))

compiles_then_held : (R : Type 0) (c : Option (Option (List ℕ))) (observer : Option (List ℕ))
    (Next : Syntax → LabelledProgram → Option Label → Code → Status → List ℕ → Type 0) (s : Status) (t : List ℕ)
    → CompilesFrom R c observer Next s t → (h : Option (List ℕ)) × Fits c h × CompilesFrom R (Some h) observer Next s t
compiles_then_held R c observer Next s t =
    program_then_held R c (λ p. Then (ObserverStops p.order observer) (Observes p.order observer)
    (λ o. Then (TypeStops p) (Types p) (λ q. Then (ImageStops q) (HasImage q) (λ code. Next p q o code)))) s t

-- ---- stages over what the files hold

module _ (Rises : List ℕ → Type 0) (content : Content) (s : Status) (t : List ℕ) where
  -- with one file
  pub program_answer : (file : List ℕ) (Next : Syntax → Status → List ℕ → Type 0)
      → Then (ProgramStops (Rises file) (content file)) (Reads (content file)) Next s t
      → (held : Held) × HoldsTold content held
      × Then (ProgramStops (Rises file) (told_all held file)) (Reads (told_all held file)) Next s t
  program_answer file Next x =
      one_file content file (λ c. Then (ProgramStops (Rises file) c) (Reads c) Next s t) (program_then_held (Rises file) (content file) Next s t x)

  pub compiled_answer : (file : List ℕ) (observer : Option (List ℕ)) (Next : Syntax → LabelledProgram → Option Label → Code → Status → List ℕ → Type 0)
      → CompilesFrom (Rises file) (content file) observer Next s t
      → (held : Held) × HoldsTold content held × CompilesFrom (Rises file) (told_all held file) observer Next s t
  compiled_answer file observer Next x =
      one_file content file (λ c. CompilesFrom (Rises file) c observer Next s t) (compiles_then_held (Rises file) (content file) observer Next s t x)

  pub ready_answer : (file : List ℕ) (Next : List (List ℕ) → Status → List ℕ → Type 0)
      → Then (ReadyStops (Rises file) (content file)) (HoldsRuns (content file)) Next s t
      → (held : Held) × HoldsTold content held
      × Then (ReadyStops (Rises file) (told_all held file)) (HoldsRuns (told_all held file)) Next s t
  ready_answer file Next x =
      one_file content file (λ c. Then (ReadyStops (Rises file) c) (HoldsRuns c) Next s t)
      (ready_then_held (Rises file) (content file) Next s t x)

  -- with the starts of a second file
  pub starts_answer : (file observer starts : List ℕ) (Next : Syntax → LabelledProgram → Option Label → Code → List StartValue → Status → List ℕ → Type 0)
      → (file ≡ starts → IsSome (content file))
      → CompilesFrom (Rises file) (content file) (Some observer)
      (λ p q o code. Then (StartStops (Rises starts) (content starts) p) (StartsAre (content starts) p) (λ ss. Next p q o code ss)) s t
      → (held : Held) × HoldsTold content held
      × CompilesFrom (Rises file) (told_all held file) (Some observer)
      (λ p q o code. Then (StartStops (Rises starts) (told_all held starts) p) (StartsAre (told_all held starts) p) (λ ss. Next p q o code ss)) s t
  starts_answer file observer starts Next alike x =
      let later = compiles_later Rises content file (Some observer) (content starts)
      (λ p q o code. Then (StartStops (Rises starts) (content starts) p) (StartsAre (content starts) p) (λ ss. Next p q o code ss))
      (λ k p q o code. Then (StartStops (Rises starts) (Some k) p) (StartsAre (Some k) p) (λ ss. Next p q o code ss)) s t
      (λ p q o code. starts_then_held (Rises starts) (content starts) p (λ ss. Next p q o code ss) s t) x in
      let first = compiles_then_held (Rises file) (content file) (Some observer)
      (λ p q o code. Then (StartStops (Rises starts) (Some later.0) p) (StartsAre (Some later.0) p) (λ ss. Next p q o code ss)) s t later.2 in
      two_files content file starts
      (λ c d. CompilesFrom (Rises file) c (Some observer) (λ p q o code. Then (StartStops (Rises starts) d p) (StartsAre d p) (λ ss. Next p q o code ss)) s t)
      first.0 later.0 first.1 later.1 alike first.2

  -- with the first start of a second file
  pub first_answer : (file starts : List ℕ) (observer : Option (List ℕ))
      (Next : Syntax → LabelledProgram → Option Label → Code → StartValue → Status → List ℕ → Type 0)
      → (file ≡ starts → IsSome (content file))
      → CompilesFrom (Rises file) (content file) observer (λ p q o code. Then (FirstStops Rises content (Some starts) p) (FirstStart content (Some starts) p)
      (λ start. Next p q o code start)) s t
      → (held : Held) × HoldsTold content held
      × CompilesFrom (Rises file) (told_all held file) observer
      (λ p q o code. Then (FirstStops Rises (told_all held) (Some starts) p) (FirstStart (told_all held) (Some starts) p) (λ start. Next p q o code start))
      s t
  first_answer file starts observer Next alike x =
      let later = compiles_later Rises content file observer (content starts)
      (λ p q o code. Then (FirstStops Rises content (Some starts) p) (FirstStart content (Some starts) p) (λ start. Next p q o code start))
      (λ k p q o code. Then (StartStops (Rises starts) (Some k) p) (λ start. (others : List StartValue) × StartsAre (Some k) p (start ∷ others))
      (λ start. Next p q o code start)) s t
      (λ p q o code. first_then_held Rises content starts p (λ start. Next p q o code start) s t) x in
      let first = compiles_then_held (Rises file) (content file) observer
      (λ p q o code. Then (StartStops (Rises starts) (Some later.0) p) (λ start. (others : List StartValue) × StartsAre (Some later.0) p (start ∷ others))
      (λ start. Next p q o code start)) s t later.2 in
      two_files content file starts
      (λ c d. CompilesFrom (Rises file) c observer
      (λ p q o code. Then (StartStops (Rises starts) d p) (λ start. (others : List StartValue) × StartsAre d p (start ∷ others))
      (λ start. Next p q o code start)) s t)
      first.0 later.0 first.1 later.1 alike first.2

  -- the same of a run without its time
  pub meant_answer : (file starts : List ℕ) (Next : Syntax → StartValue → Status → List ℕ → Type 0)
      → (file ≡ starts → IsSome (content file))
      → Then (ProgramStops (Rises file) (content file)) (Reads (content file))
      (λ p. Then (FirstStops Rises content (Some starts) p) (FirstStart content (Some starts) p) (λ start. Next p start)) s t
      → (held : Held) × HoldsTold content held
      × Then (ProgramStops (Rises file) (told_all held file)) (Reads (told_all held file))
      (λ p. Then (FirstStops Rises (told_all held) (Some starts) p) (FirstStart (told_all held) (Some starts) p) (λ start. Next p start)) s t
  meant_answer file starts Next alike x =
      let later = then_later (content starts) (ProgramStops (Rises file) (content file)) (Reads (content file))
      (λ p. Then (FirstStops Rises content (Some starts) p) (FirstStart content (Some starts) p) (λ start. Next p start))
      (λ k p. Then (StartStops (Rises starts) (Some k) p) (λ start. (others : List StartValue) × StartsAre (Some k) p (start ∷ others)) (λ start. Next p start))
      s t
      (λ p. first_then_held Rises content starts p (λ start. Next p start) s t) x in
      let first = program_then_held (Rises file) (content file)
      (λ p. Then (StartStops (Rises starts) (Some later.0) p) (λ start. (others : List StartValue) × StartsAre (Some later.0) p (start ∷ others))
      (λ start. Next p start)) s t later.2 in
      two_files content file starts
      (λ c d. Then (ProgramStops (Rises file) c) (Reads c)
      (λ p. Then (StartStops (Rises starts) d p) (λ start. (others : List StartValue) × StartsAre d p (start ∷ others)) (λ start. Next p start)) s t)
      first.0 later.0 first.1 later.1 alike first.2

  -- with the certificate of a second file
  pub certified_answer : (file certificate : List ℕ) (Next : Syntax → LabelledProgram → Status → List ℕ → Type 0)
      → (file ≡ certificate → IsSome (content file))
      → Then (ProgramStops (Rises file) (content file)) (Reads (content file))
      (λ p. Then (CertificateStops (Rises certificate) (content certificate) p) (Rechecks (content certificate) p) (λ q. Next p q)) s t
      → (held : Held) × HoldsTold content held
      × Then (ProgramStops (Rises file) (told_all held file)) (Reads (told_all held file))
      (λ p. Then (CertificateStops (Rises certificate) (told_all held certificate) p) (Rechecks (told_all held certificate) p) (λ q. Next p q)) s t
  certified_answer file certificate Next alike x =
      let later = then_later (content certificate) (ProgramStops (Rises file) (content file)) (Reads (content file))
      (λ p. Then (CertificateStops (Rises certificate) (content certificate) p) (Rechecks (content certificate) p) (λ q. Next p q))
      (λ k p. Then (CertificateStops (Rises certificate) (Some k) p) (Rechecks (Some k) p) (λ q. Next p q)) s t
      (λ p. certificate_then_held (Rises certificate) (content certificate) p (λ q. Next p q) s t) x in
      let first = program_then_held (Rises file) (content file)
      (λ p. Then (CertificateStops (Rises certificate) (Some later.0) p) (Rechecks (Some later.0) p) (λ q. Next p q)) s t later.2 in
      two_files content file certificate
      (λ c d. Then (ProgramStops (Rises file) c) (Reads c) (λ p. Then (CertificateStops (Rises certificate) d p) (Rechecks d p) (λ q. Next p q)) s t)
      first.0 later.0 first.1 later.1 alike first.2

-- ---- the end of a call

module _ {X : Type 0} (G : X → Type 0) (Earlier : List ℕ → Type 0) (Later : X → List ℕ → Type 0) (A : Status → List ℕ → Type 0)
    (B : X → Status → List ℕ → Type 0)
    (f : (b : List ℕ) → Earlier b → (x : X) × G x × Later x b) (g : (s : Status) (t : List ℕ) → A s t → (x : X) × G x × B x s t) where
  tells_some : (s : Status) (t : List ℕ) → Tells Earlier A s t → (x : X) × G x × Tells (Later x) (B x) s t
  tells_some status.Done t h = g status.Done t h
  tells_some status.Refused t h = g status.Refused t h
  tells_some status.Syntax t h = g status.Syntax t h
  tells_some status.Starts t h = g status.Starts t h
  tells_some status.Usage t h = g status.Usage t h
  tells_some status.ReadFault t h = g status.ReadFault t h
  tells_some status.WriteFault t h = g status.WriteFault t h
  tells_some status.TooLong t h = g status.TooLong t h
  tells_some status.Budget t h = g status.Budget t h
  tells_some status.Disagree t h = g status.Disagree t h
  tells_some status.Unfinished t h = g status.Unfinished t h
  tells_some status.Rejected t h = g status.Rejected t h
  tells_some status.Memory t h = let k = f h.0 h.1 in (k.0, k.1, (h.0, k.2, h.2))

  pub ends_some : (old new : Option (List ℕ)) (s : Status) → EndsBy old new Earlier A s → (x : X) × G x × EndsBy old new (Later x) (B x) s
  ends_some old new status.Done h = let k = tells_some status.Done h.0 h.1 in (k.0, k.1, (h.0, k.2, h.2))
  ends_some old new status.Refused h = let k = tells_some status.Refused h.0 h.1 in (k.0, k.1, (h.0, k.2, h.2))
  ends_some old new status.Syntax h = let k = tells_some status.Syntax h.0 h.1 in (k.0, k.1, (h.0, k.2, h.2))
  ends_some old new status.Starts h = let k = tells_some status.Starts h.0 h.1 in (k.0, k.1, (h.0, k.2, h.2))
  ends_some old new status.Usage h = let k = tells_some status.Usage h.0 h.1 in (k.0, k.1, (h.0, k.2, h.2))
  ends_some old new status.ReadFault h = let k = tells_some status.ReadFault h.0 h.1 in (k.0, k.1, (h.0, k.2, h.2))
  ends_some old new status.WriteFault h = let k = tells_some h.0 h.1 h.2 in (k.0, k.1, (h.0, h.1, k.2, h.3))
  ends_some old new status.TooLong h = let k = tells_some status.TooLong h.0 h.1 in (k.0, k.1, (h.0, k.2, h.2))
  ends_some old new status.Budget h = let k = tells_some status.Budget h.0 h.1 in (k.0, k.1, (h.0, k.2, h.2))
  ends_some old new status.Disagree h = let k = tells_some status.Disagree h.0 h.1 in (k.0, k.1, (h.0, k.2, h.2))
  ends_some old new status.Unfinished h = let k = tells_some status.Unfinished h.0 h.1 in (k.0, k.1, (h.0, k.2, h.2))
  ends_some old new status.Memory h = let k = tells_some status.Memory h.0 h.1 in (k.0, k.1, (h.0, k.2, h.2))
  ends_some old new status.Rejected h = let k = tells_some status.Rejected h.0 h.1 in (k.0, k.1, (h.0, k.2, h.2))
