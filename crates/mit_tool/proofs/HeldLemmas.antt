-- What a command's files hold, where a shelf does not tell it: by what stopped a stage, or what the stage gave.
use Rattle.std.proofs.Common.{◌≡◌, ◌<◌, ◌+◌, ℕ, List, ◌∷◌, length, replicate, Option, Some, None, cond, inl, inr, refl, ap, ◌∙◌, arith}
use Rattle.std.specs.Prelude.{bytes_eq}
use Rattle.std.proofs.lemmas.Option.{none-some}
use Rattle.std.proofs.lemmas.List.{length-replicate}
use Rattle.tim_base.specs.Told.{limit, IsTold, IsTooLong}
use Rattle.label_lattice.specs.declared.label.Label.{Label}
use Rattle.mit_syntax.specs.Program.{Syntax}
use Rattle.timing_types.specs.Labelled.{LabelledProgram}
use Rattle.label_code.specs.Shaped.{Code}
use Rattle.start_file.specs.Starts.{StartValue}
use Rattle.tool_texts.specs.declared.status.Status.{Status}
use Rattle.tool_texts.specs.declared.status.Status.TheVariants as status
use Rattle.tool_stages.specs.Stages.{Then, Reads, ProgramStops, StartsAre, StartStops, FirstStart, FirstStops, ReadyStops, HoldsRuns, HoldsCertificate}
use Rattle.tool_stages.specs.Stages.{Rechecks, CertificateStops}
use Rattle.mit_tool.specs.Held.{Held}
use Rattle.tool_stages.specs.Content.{Content}
use Rattle.tool_stages.specs.Begins.{Compiles}

-- ---- one file

-- what the file holds is what is told of it
abbrev pub Fits : Option (Option (List ℕ)) → Option (List ℕ) → Type 0
Fits c h = (x : Option (List ℕ)) → c ≡ Some x → h ≡ x

abbrev pub held_of : Option (Option (List ℕ)) → Option (List ℕ)
held_of None = None
held_of (Some h) = h

pub fits_held : (c : Option (Option (List ℕ))) → Fits c (held_of c)
fits_held None x e = absurd (none-some x e)
fits_held (Some h) x e = cc

pub fits_bytes : (c : Option (Option (List ℕ))) (bytes : List ℕ) → IsTold c bytes → Fits c (Some bytes)
fits_bytes None bytes t x e = absurd (none-some x e)
fits_bytes (Some None) bytes t x e = absurd t
fits_bytes (Some (Some xs)) bytes t x e = let same : Some xs ≡ x = cc in ap Some t ∙ same

longer : (n x : ℕ) → n < length (replicate (n + 1) x)
longer n x = let long = length-replicate (n + 1) x in omega (arith, long)

-- some file is too long
pub held_long : (c : Option (Option (List ℕ))) → IsTooLong c → (h : Option (List ℕ)) × Fits c h × IsTooLong (Some h)
held_long None t = (Some (replicate (limit + 1) 0), λ x e. absurd (none-some x e), longer limit 0)
held_long (Some None) t = absurd t
held_long (Some (Some xs)) t = (Some xs, fits_held (Some (Some xs)), t)

-- ---- stages that read a file

pub reads_held : (c : Option (Option (List ℕ))) (p : Syntax) → Reads c p → (h : Option (List ℕ)) × Fits c h × Reads (Some h) p
reads_held c p r =
    (Some r.bytes, fits_bytes c r.bytes r.are, record { bytes = r.bytes; are = refl; short = r.short; tokens = r.tokens; cut = r.cut; spelled = r.spelled })

pub starts_held : (c : Option (Option (List ℕ))) (p : Syntax) (ss : List StartValue) → StartsAre c p ss
    → (h : Option (List ℕ)) × Fits c h × StartsAre (Some h) p ss
starts_held c p ss r = (Some r.0, fits_bytes c r.0 r.1, (r.0, refl, r.2, r.3))

pub runs_held : (c : Option (Option (List ℕ))) (runs : List (List ℕ)) → HoldsRuns c runs → (h : Option (List ℕ)) × Fits c h × HoldsRuns (Some h) runs
runs_held c runs r = (Some r.bytes, fits_bytes c r.bytes r.are, record { bytes = r.bytes; are = refl; short = r.short; taken = r.taken; holds = r.holds })

pub program_stop_held : (R : Type 0) (c : Option (Option (List ℕ))) (s : Status) (t : List ℕ) → ProgramStops R c s t → (h : Option (List ℕ)) × Fits c h
    × ProgramStops R (Some h) s t
program_stop_held R c status.Done t x = absurd x
program_stop_held R c status.Refused t x = absurd x
program_stop_held R c status.Syntax t (inl f) = (
  Some f.bytes,
  fits_bytes c f.bytes f.are,
  inl (record { bytes = f.bytes; are = refl; short = f.short; fault = f.fault; none = f.none; is = f.is; line = f.line }),
)
program_stop_held R c status.Syntax t (inr f) = (
  Some f.bytes,
  fits_bytes c f.bytes f.are,
  inr (record { bytes = f.bytes; are = refl; short = f.short; tokens = f.tokens; cut = f.cut; fault = f.fault; none = f.none; is = f.is; line = f.line }),
)
program_stop_held R c status.Starts t x = absurd x
program_stop_held R c status.Usage t x = absurd x
program_stop_held R c status.ReadFault t x = (held_of c, fits_held c, x)
program_stop_held R c status.WriteFault t x = absurd x
program_stop_held R c status.TooLong t x = let k = held_long c x.0 in (k.0, k.1, (k.2, x.1))
program_stop_held R c status.Budget t x = absurd x
program_stop_held R c status.Disagree t x = absurd x
program_stop_held R c status.Unfinished t x = absurd x
program_stop_held R c status.Memory t x = absurd x
program_stop_held R c status.Rejected t x = absurd x

pub start_stop_held : (R : Type 0) (c : Option (Option (List ℕ))) (p : Syntax) (s : Status) (t : List ℕ) → StartStops R c p s t
    → (h : Option (List ℕ)) × Fits c h × StartStops R (Some h) p s t
start_stop_held R c p status.Done t x = absurd x
start_stop_held R c p status.Refused t x = absurd x
start_stop_held R c p status.Syntax t x = absurd x
start_stop_held R c p status.Starts t f = (
  Some f.bytes,
  fits_bytes c f.bytes f.are,
  record { bytes = f.bytes; are = refl; short = f.short; fault = f.fault; none = f.none; is = f.is; line = f.line },
)
start_stop_held R c p status.Usage t x = absurd x
start_stop_held R c p status.ReadFault t x = (held_of c, fits_held c, x)
start_stop_held R c p status.WriteFault t x = absurd x
start_stop_held R c p status.TooLong t x = let k = held_long c x.0 in (k.0, k.1, (k.2, x.1))
start_stop_held R c p status.Budget t x = absurd x
start_stop_held R c p status.Disagree t x = absurd x
start_stop_held R c p status.Unfinished t x = absurd x
start_stop_held R c p status.Memory t x = absurd x
start_stop_held R c p status.Rejected t x = absurd x

pub ready_stop_held : (R : Type 0) (c : Option (Option (List ℕ))) (s : Status) (t : List ℕ) → ReadyStops R c s t
    → (h : Option (List ℕ)) × Fits c h × ReadyStops R (Some h) s t
ready_stop_held R c status.Done t x = absurd x
ready_stop_held R c status.Refused t x = absurd x
ready_stop_held R c status.Syntax t x = absurd x
ready_stop_held R c status.Starts t f = (
  Some f.bytes,
  fits_bytes c f.bytes f.are,
  record { bytes = f.bytes; are = refl; short = f.short; fault = f.fault; none = f.none; is = f.is; line = f.line },
)
ready_stop_held R c status.Usage t x = absurd x
ready_stop_held R c status.ReadFault t x = (held_of c, fits_held c, x)
ready_stop_held R c status.WriteFault t x = absurd x
ready_stop_held R c status.TooLong t x = let k = held_long c x.0 in (k.0, k.1, (k.2, x.1))
ready_stop_held R c status.Budget t x = absurd x
ready_stop_held R c status.Disagree t x = absurd x
ready_stop_held R c status.Unfinished t x = absurd x
ready_stop_held R c status.Memory t x = absurd x
ready_stop_held R c status.Rejected t x = absurd x

pub rechecks_held : (c : Option (Option (List ℕ))) (p : Syntax) (q : LabelledProgram) → Rechecks c p q
    → (h : Option (List ℕ)) × Fits c h × Rechecks (Some h) p q
rechecks_held c p q r =
    let k : HoldsCertificate c p q = r.holds in (
      Some k.bytes,
      fits_bytes c k.bytes k.are,
      record {
        holds = record { bytes = k.bytes; are = refl; short = k.short; program = k.program; certifies = k.certifies };
        labels = r.labels;
        typed =
            r.typed;
      },
    )

pub certificate_stop_held : (R : Type 0) (c : Option (Option (List ℕ))) (p : Syntax) (s : Status) (t : List ℕ) → CertificateStops R c p s t
    → (h : Option (List ℕ)) × Fits c h × CertificateStops R (Some h) p s t
certificate_stop_held R c p status.Done t x = absurd x
certificate_stop_held R c p status.Refused t x = absurd x
certificate_stop_held R c p status.Syntax t x = absurd x
certificate_stop_held R c p status.Starts t x = absurd x
certificate_stop_held R c p status.Usage t x = absurd x
certificate_stop_held R c p status.ReadFault t x = (held_of c, fits_held c, x)
certificate_stop_held R c p status.WriteFault t x = absurd x
certificate_stop_held R c p status.TooLong t x = let k = held_long c x.0 in (k.0, k.1, (k.2, x.1))
certificate_stop_held R c p status.Budget t x = absurd x
certificate_stop_held R c p status.Disagree t x = absurd x
certificate_stop_held R c p status.Unfinished t x = absurd x
certificate_stop_held R c p status.Memory t x = absurd x
certificate_stop_held R c p status.Rejected t f =
    (Some f.bytes, fits_bytes c f.bytes f.are, record { bytes = f.bytes; are = refl; short = f.short; number = f.number; first = f.first; line = f.line })

-- ---- chains of stages

-- a stage that reads a file
pub then_held : {A : Type 0} (c : Option (Option (List ℕ))) (Stops : Option (Option (List ℕ)) → Status → List ℕ
    → Type 0) (Gives : Option (Option (List ℕ)) → A → Type 0)
    (Next : A → Status → List ℕ → Type 0) (s : Status) (t : List ℕ)
    → (Stops c s t → (h : Option (List ℕ)) × Fits c h × Stops (Some h) s t) → ((a : A) → Gives c a → (h : Option (List ℕ)) × Fits c h × Gives (Some h) a)
    → Then (Stops c) (Gives c) Next s t → (h : Option (List ℕ)) × Fits c h × Then (Stops (Some h)) (Gives (Some h)) Next s t
then_held c Stops Gives Next s t f g (inl x) = let k = f x in (k.0, k.1, inl k.2)
then_held c Stops Gives Next s t f g (inr (a, given, n)) = let k = g a given in (k.0, k.1, inr (a, k.2, n))

-- a stage that does not, before what reads it
pub then_later : {A : Type 0} (c : Option (Option (List ℕ))) (Stops : Status → List ℕ → Type 0) (Gives : A → Type 0) (Next : A → Status → List ℕ → Type 0)
    (Later : Option (List ℕ) → A → Status → List ℕ → Type 0) (s : Status) (t : List ℕ)
    → ((a : A) → Next a s t → (h : Option (List ℕ)) × Fits c h × Later h a s t)
    → Then Stops Gives Next s t → (h : Option (List ℕ)) × Fits c h × Then Stops Gives (Later h) s t
then_later c Stops Gives Next Later s t f (inl x) = (held_of c, fits_held c, inl x)
then_later c Stops Gives Next Later s t f (inr (a, given, n)) = let k = f a n in (k.0, k.1, inr (a, given, k.2))

pub compiles_later : (Rises : List ℕ → Type 0) (content : Content) (file : List ℕ) (observer : Option (List ℕ)) (c : Option (Option (List ℕ)))
    (Next : Syntax → LabelledProgram → Option Label → Code → Status → List ℕ → Type 0)
    (Later : Option (List ℕ) → Syntax → LabelledProgram → Option Label → Code → Status → List ℕ → Type 0) (s : Status) (t : List ℕ)
    → ((p : Syntax) (q : LabelledProgram) (o : Option Label) (code : Code) → Next p q o code s t → (h : Option (List ℕ)) × Fits c h × Later h p q o code s t)
    → Compiles Rises content file observer Next s t → (h : Option (List ℕ)) × Fits c h × Compiles Rises content file observer (Later h) s t
compiles_later Rises content file observer c Next Later s t f (inl x) = (held_of c, fits_held c, inl x)
compiles_later Rises content file observer c Next Later s t f (inr (p, reads, inl x)) = (held_of c, fits_held c, inr (p, reads, inl x))
compiles_later Rises content file observer c Next Later s t f (inr (p, reads, inr (o, sees, inl x))) =
    (held_of c, fits_held c, inr (p, reads, inr (o, sees, inl x)))
compiles_later Rises content file observer c Next Later s t f (inr (p, reads, inr (o, sees, inr (q, types, inl x)))) =
    (held_of c, fits_held c, inr (p, reads, inr (o, sees, inr (q, types, inl x))))
compiles_later Rises content file observer c Next Later s t f (inr (p, reads, inr (o, sees, inr (q, types, inr (code, image, n))))) =
    let k = f p q o code n in
    (k.0, k.1, inr (p, reads, inr (o, sees, inr (q, types, inr (code, image, k.2)))))

-- the starts of a file, and the rest
pub starts_then_held : (R : Type 0) (c : Option (Option (List ℕ))) (p : Syntax) (Next : List StartValue → Status → List ℕ → Type 0) (s : Status) (t : List ℕ)
    → Then (StartStops R c p) (StartsAre c p) Next s t → (h : Option (List ℕ)) × Fits c h × Then (StartStops R (Some h) p) (StartsAre (Some h) p) Next s t
starts_then_held R c p Next s t =
    then_held c (λ z. StartStops R z p) (λ z. StartsAre z p) Next s t (start_stop_held R c p s t) (starts_held c p)

-- the first start of a file, and the rest
pub first_then_held : (Rises : List ℕ → Type 0) (content : Content) (name : List ℕ) (p : Syntax)
    (Next : StartValue → Status → List ℕ → Type 0) (s : Status) (t : List ℕ)
    → Then (FirstStops Rises content (Some name) p) (FirstStart content (Some name) p) Next s t
    → (h : Option (List ℕ)) × Fits (content name) h
    × Then (StartStops (Rises name) (Some h) p) (λ start. (others : List StartValue) × StartsAre (Some h) p (start ∷ others)) Next s t
first_then_held Rises content name p Next s t =
    then_held (content name) (λ z. StartStops (Rises name) z p) (λ z start. (others : List StartValue) × StartsAre z p (start ∷ others)) Next s t
    (start_stop_held (Rises name) (content name) p s t)
    (λ start given. let k = starts_held (content name) p (start ∷ given.0) given.1 in (k.0, k.1, (given.0, k.2)))

-- the certificate in a file, and the rest
pub certificate_then_held : (R : Type 0) (c : Option (Option (List ℕ))) (p : Syntax) (Next : LabelledProgram → Status → List ℕ → Type 0) (s : Status)
    (t : List ℕ)
    → Then (CertificateStops R c p) (Rechecks c p) Next s t → (h : Option (List ℕ)) × Fits c h
    × Then (CertificateStops R (Some h) p) (Rechecks (Some h) p) Next s t
certificate_then_held R c p Next s t =
    then_held c (λ z. CertificateStops R z p) (λ z. Rechecks z p) Next s t (certificate_stop_held R c p s t) (rechecks_held c p)

-- ---- two files

-- one file holds this, another one that, and the others what is told of them
abbrev pub held_with : Content → List ℕ → Option (List ℕ) → List ℕ → Option (List ℕ) → Held
held_with content file h other k name = cond (bytes_eq name file) h (cond (bytes_eq name other) k (held_of (content name)))
