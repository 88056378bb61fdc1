-- What stops before the typing or at the image does not come past the typing.
use Rattle.std.proofs.Common.{◌≡◌, ◌≢◌, ℕ, List, Option, inl, inr, refl, sym, subst, false, Vec, Global, Result, Ok, Err, IfErr, OnOk}
use Rattle.std.specs.Prelude.{IsTrue}
use Rattle.label_lattice.specs.declared.label.Label.{Label}
use Rattle.label_lattice.specs.Order.{Order}
use Rattle.mit_syntax.specs.Program.{Syntax}
use Rattle.timing_types.specs.Labelled.{LabelledProgram}
use Rattle.label_code.specs.Shaped.{Code}
use Rattle.tool_texts.specs.declared.status.Status.{Status}
use Rattle.tool_texts.specs.declared.status.Status.TheVariants.{Done, Refused, Syntax as BadSyntax, Starts, Usage, ReadFault, WriteFault, TooLong, Budget}
use Rattle.tool_texts.specs.declared.status.Status.TheVariants.{Disagree, Unfinished, Memory, Rejected}
use Rattle.tool_texts.specs.declared.stop.Stop.{Stop}
use Rattle.tool_texts.specs.Texts.{File, program as program_file, certificate as certificate_file}
use Rattle.tool_texts.specs.Ends.{Broke, IsStop, status_of, stop_text, told_status}
use Rattle.tool_stages.specs.Stages.{ProgramStops, ObserverStops, TypeStops, ImageStops, HasWrongLine, CertificateStops}
use Rattle.tool_stages.specs.Content.{Content}
use Rattle.tool_stages.specs.Begins.{Compiles, NoMore, CompileStops}
use Rattle.tool_stages.specs.Accepted.{is_past_typing}
use Rattle.tool_stages.proofs.StageStops.{FileBreaks, BadText, program_stops, observer_stops, type_stops, image_stops, certificate_stops}

-- a command that stops did not come past the typing, and no write failed
pub record IsEarly (s : Status) : Type 0 where
  pub early : is_past_typing s ≡ false
  pub no_fault : s ≢ WriteFault

broke_early : (A : Status → List ℕ → Type 0) (s : Status) (t : List ℕ) → (A s t → IsEarly s) → Broke A s t → IsEarly s
broke_early A Done t f h = f h
broke_early A Refused t f h = f h
broke_early A BadSyntax t f h = f h
broke_early A Starts t f h = f h
broke_early A Usage t f h = f h
broke_early A ReadFault t f h = f h
broke_early A WriteFault t f h = f h
broke_early A TooLong t f h = f h
broke_early A Budget t f h = f h
broke_early A Disagree t f h = f h
broke_early A Unfinished t f h = f h
broke_early A Memory t f h = record { early = refl; no_fault = λ e. cc }
broke_early A Rejected t f h = f h

-- ---- single statuses

read_early : IsEarly ReadFault
read_early = record { early = refl; no_fault = λ e. cc }

long_early : IsEarly TooLong
long_early = record { early = refl; no_fault = λ e. cc }

syntax_early : IsEarly BadSyntax
syntax_early = record { early = refl; no_fault = λ e. cc }

usage_early : IsEarly Usage
usage_early = record { early = refl; no_fault = λ e. cc }

refused_early : IsEarly Refused
refused_early = record { early = refl; no_fault = λ e. cc }

-- ---- stages

file_early : (R : Type 0) (f : File) (c : Option (Option (List ℕ))) (Faulty : List ℕ → Type 0) (v s : Status) (t : List ℕ) → IsEarly v
    → FileBreaks R f c Faulty v s t → IsEarly s
file_early R f c Faulty v s t early (inl h) = subst IsEarly (sym h.0) read_early
file_early R f c Faulty v s t early (inr (inl h)) = subst IsEarly (sym h.0) long_early
file_early R f c Faulty v s t early (inr (inr h)) = subst IsEarly (sym h.0) early

pub program_early : (R : Type 0) (c : Option (Option (List ℕ))) (s : Status) (t : List ℕ) → ProgramStops R c s t → IsEarly s
program_early R c s t h = file_early R program_file c (BadText c) BadSyntax s t syntax_early (program_stops R c s t h)

pub observer_early : (o : Order) (w : Option (List ℕ)) (s : Status) (t : List ℕ) → ObserverStops o w s t → IsEarly s
observer_early o w s t h = subst IsEarly (sym (observer_stops o w s t h).0) usage_early

pub type_early : (p : Syntax) (s : Status) (t : List ℕ) → TypeStops p s t → IsEarly s
type_early p s t h = subst IsEarly (sym (type_stops p s t h).0) refused_early

pub image_early : (q : LabelledProgram) (s : Status) (t : List ℕ) → ImageStops q s t → IsEarly s
image_early q s t h = subst IsEarly (sym (image_stops q s t h).0) long_early

rejected_early : IsEarly Rejected
rejected_early = record { early = refl; no_fault = λ e. cc }

pub certificate_early : (R : Type 0) (c : Option (Option (List ℕ))) (p : Syntax) (s : Status) (t : List ℕ) → CertificateStops R c p s t → IsEarly s
certificate_early R c p s t h = file_early R certificate_file c (HasWrongLine c p) Rejected s t rejected_early (certificate_stops R c p s t h)

compiles_early : (Rises : List ℕ → Type 0) (content : Content) (file : List ℕ) (observer : Option (List ℕ))
    (Next : Syntax → LabelledProgram → Option Label → Code → Status → List ℕ → Type 0) (s : Status) (t : List ℕ)
    → ((p : Syntax) (q : LabelledProgram) (o : Option Label) (code : Code) → Next p q o code s t → IsEarly s)
    → Compiles Rises content file observer Next s t → IsEarly s
compiles_early Rises content file observer Next s t f (inl h) = program_early (Rises file) (content file) s t h
compiles_early Rises content file observer Next s t f (inr (p, reads, inl h)) = observer_early p.order observer s t h
compiles_early Rises content file observer Next s t f (inr (p, reads, inr (o, sees, inl h))) = type_early p s t h
compiles_early Rises content file observer Next s t f (inr (p, reads, inr (o, sees, inr (q, types, inl h)))) = image_early q s t h
compiles_early Rises content file observer Next s t f (inr (p, reads, inr (o, sees, inr (q, types, inr (code, image, h))))) = f p q o code h

compile_early : (Rises : List ℕ → Type 0) (content : Content) (file : List ℕ) (observer : Option (List ℕ)) (s : Status) (t : List ℕ)
    → CompileStops Rises content file observer s t → IsEarly s
compile_early Rises content file observer s t = compiles_early Rises content file observer (λ p q o code. NoMore) s t (λ p q o code h. absurd h)

pub not_late : (s : Status) → IsEarly s → IsTrue (is_past_typing s) → ⊥
not_late s h late = cc (h.early)

pub compile_not_late : (Rises : List ℕ → Type 0) (content : Content) (file : List ℕ) (observer : Option (List ℕ)) (e : Stop)
    → IsStop (CompileStops Rises content file observer) e → IsTrue (is_past_typing (status_of e)) → ⊥
compile_not_late Rises content file observer e h =
    not_late (status_of e) (broke_early (CompileStops Rises content file observer) (status_of e) (stop_text e)
    (compile_early Rises content file observer (status_of e) (stop_text e)) h)

-- ---- what was written

-- the status that came past the typing is the one that is told, where no write failed
pub past_told : (r s : Status) → (r ≢ WriteFault → r ≡ s) → IsTrue (is_past_typing r) → IsTrue (is_past_typing s)
past_told r s told past =
    let none : r ≢ WriteFault = λ e. absurd (past_no_fault (subst (λ (z : Status). IsTrue (is_past_typing z)) e past)) in
    subst (λ (z : Status). IsTrue (is_past_typing z)) (told none) past
  where
    past_no_fault : IsTrue (is_past_typing WriteFault) → ⊥
    past_no_fault e = cc

-- what is true of each result that came past the typing is true where the status tells so
pub result_past : (r : Result (Vec ℕ Global) Stop) (A : Type 0) (s : Status) → OnOk r A → IfErr r (λ e. IsTrue (is_past_typing (status_of e)) → A)
    → (s ≢ WriteFault → s ≡ told_status r) → IsTrue (is_past_typing s) → A
result_past r A s ok stop told past = of_result r ok stop (past_told s (told_status r) told past)
  where
    of_result : (r : Result (Vec ℕ Global) Stop) → OnOk r A → IfErr r (λ e. IsTrue (is_past_typing (status_of e)) → A)
        → IsTrue (is_past_typing (told_status r)) → A
    of_result (Ok v) h k p = h
    of_result (Err e) h k p = k p
