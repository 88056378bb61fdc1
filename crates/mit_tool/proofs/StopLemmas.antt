-- What runs tell, and what stops them.
use Rattle.std.proofs.Common.{◌≡◌, ◌≢◌, ◌≤◌, ℕ, List, ◌++◌, Option, inl, inr, refl, sym, subst}
use Rattle.label_lattice.specs.declared.label.Label.{Label}
use Rattle.mit_syntax.specs.Program.{Syntax, plan_of}
use Rattle.timing_types.specs.Labelled.{LabelledProgram}
use Rattle.label_code.specs.Shaped.{Code}
use Rattle.start_file.specs.Starts.{StartValue}
use Rattle.std.specs.Prelude.{ℤ, Result, Ok, Err, IfErr}
use Rattle.std.specs.Result.{IsErrAnd}
use Rattle.std.specs.Io.KnownBytes.{Appends}
use Rattle.tim_base.specs.Sinks.{AppendsPrefix}
use Rattle.tool_words.specs.declared.words.EnvName.{EnvName}
use Rattle.tool_words.specs.WordsAsked.{check, run, meaning, recheck}
use Rattle.tool_texts.specs.declared.status.Status.{Status}
use Rattle.tool_texts.specs.declared.status.Status.TheVariants.{Done, WriteFault, Memory}
use Rattle.tool_texts.specs.declared.stop.Stop.{Stop}
use Rattle.tool_texts.specs.Ends.{EndsBy, IsStop, status_of, stop_text}
use Rattle.tool_texts.specs.Texts.{memory_line}
use Rattle.tool_stages.specs.Stages.{Reads, FirstStops, FirstStart, CertificateStops}
use Rattle.tool_stages.specs.Content.{Content}
use Rattle.tool_stages.specs.Begins.{NoMore, RunStops, MeaningStops, HasSource, IsReady, CheckStops}
use Rattle.mit_tool.specs.Means.{lines_after, IsLastLine, WritesSome, BreaksOff}
use Rattle.mit_tool.specs.Answers.{HasRun}
use Rattle.mit_tool.specs.Commands.{IsAnswer, HasBegun, Before}
use Rattle.tool_texts.proofs.EndLemmas.{broke_map, ends_after, prefix_longer}
use Rattle.tool_stages.proofs.StopLemmas.{certificate_rise, compiled_goes, compiles_map, starts_next, then_map}
use Rattle.mit_tool.proofs.PrepareLemmas.{run_next}

-- the run has what its answer tells
pub ready_tells : (Rises : List ℕ → Type 0) (content : Content) (file : List ℕ) (starts observer : Option (List ℕ)) (env : EnvName) (budget : ℕ)
    (q : LabelledProgram) (o : Option Label) (code : Code) (start : StartValue) (s : Status) (t : List ℕ)
    → IsReady content file starts observer q o code start → HasRun env budget q o code start s t
    → IsAnswer Rises content (run file starts env budget observer) s t
ready_tells Rises content file starts observer env budget q o code start s t h told =
    let first : FirstStart content starts h.compiled.program start =
    subst (λ (z : Syntax). FirstStart content starts z start) h.compiled.types.program h.first in
    compiled_goes Rises content file observer q o code (run_next Rises content starts env budget) s t h.compiled (inr (start, first, told))

pub run_stops : (Rises : List ℕ → Type 0) (content : Content) (file : List ℕ) (starts observer : Option (List ℕ)) (env : EnvName)
    (budget : ℕ) (s : Status) (t : List ℕ)
    → RunStops Rises content file starts observer s t → IsAnswer Rises content (run file starts env budget observer) s t
run_stops Rises content file starts observer env budget s t =
    compiles_map Rises content file observer (starts_next Rises content starts) (run_next Rises content starts env budget) s t
    (λ p q o code. then_map (FirstStops Rises content starts p) (FirstStart content starts p) (λ start. NoMore)
    (λ start. HasRun env budget q o code start) s t (λ start n. absurd n))

-- ---- a run without its time

pub meaning_stops : (Rises : List ℕ → Type 0) (content : Content) (file : List ℕ) (starts : Option (List ℕ)) (n : ℕ) (s : Status) (t : List ℕ)
    → MeaningStops Rises content file starts s t → IsAnswer Rises content (meaning file starts n) s t
meaning_stops Rises content file starts n s t (inl h) = inl h
meaning_stops Rises content file starts n s t (inr (p, reads, inl h)) = inr (p, reads, inl h)
meaning_stops Rises content file starts n s t (inr (p, reads, inr (start, first, h))) = absurd h

pub source_tells : (Rises : List ℕ → Type 0) (content : Content) (file : List ℕ) (starts : Option (List ℕ)) (n : ℕ) (p : Syntax)
    (start : StartValue) (last : List ℕ)
    → HasSource content file starts p start → IsLastLine (plan_of p) start.memory n last
    → IsAnswer Rises content (meaning file starts n) Done (lines_after p start.memory n ++ last)
source_tells Rises content file starts n p start last h is = inr (p, h.reads, inr (start, h.first, (refl, last, is, refl)))

pub source_begins : (content : Content) (file : List ℕ) (starts : Option (List ℕ)) (n k : ℕ) (p : Syntax) (start : StartValue)
    → HasSource content file starts p start → k ≤ n → HasBegun content file starts n (lines_after p start.memory k)
source_begins content file starts n k p start h l = record { program = p; reads = h.reads; start = start; first = h.first; steps = k; within = l; lines = refl }

-- the last line was written after the others, or a write failed
pub meaning_done : (Rises : List ℕ → Type 0) (content : Content) (file : List ℕ) (starts : Option (List ℕ)) (n : ℕ) (p : Syntax) (start : StartValue)
    (memory : List ℤ) (line text : List ℕ) (old mid new : Option (List ℕ)) (r : Status)
    → HasSource content file starts p start → memory ≡ start.memory → IsLastLine (plan_of p) memory n line
    → Appends old mid (lines_after p memory n) → text ≡ line
    → (r ≢ WriteFault → (r ≡ Done) × Appends mid new text) → (r ≡ WriteFault → AppendsPrefix mid new text)
    → EndsBy old new (Before content (meaning file starts n)) (IsAnswer Rises content (meaning file starts n)) r
meaning_done Rises content file starts n p start memory line text old mid new r h is last lines same told prefix =
    let last' : IsLastLine (plan_of p) start.memory n text =
    subst (λ (l : List ℕ). IsLastLine (plan_of p) start.memory n l) (sym same) (subst (λ (m : List ℤ). IsLastLine (plan_of p) m n line) is last) in
    let lines' : Appends old mid (lines_after p start.memory n) = subst (λ (m : List ℤ). Appends old mid (lines_after p m n)) is lines in
    ends_after old mid new (Before content (meaning file starts n)) (IsAnswer Rises content (meaning file starts n)) (lines_after p start.memory n) Done text r
    lines' (source_tells Rises content file starts n p start text h last') told prefix

-- memory was wanting after some lines
pub meaning_short : (Rises : List ℕ → Type 0) (content : Content) (file : List ℕ) (starts : Option (List ℕ)) (n : ℕ) (p : Syntax) (start : StartValue)
    (memory : List ℤ) (old mid new : Option (List ℕ)) (r : Status)
    → HasSource content file starts p start → memory ≡ start.memory → WritesSome old mid p memory n
    → (r ≢ WriteFault → (r ≡ Memory) × Appends mid new memory_line) → (r ≡ WriteFault → AppendsPrefix mid new memory_line)
    → EndsBy old new (Before content (meaning file starts n)) (IsAnswer Rises content (meaning file starts n)) r
meaning_short Rises content file starts n p start memory old mid new r h is some told prefix =
    let lines' : Appends old mid (lines_after p start.memory some.steps) = subst (λ (m : List ℤ). Appends old mid (lines_after p m some.steps)) is some.lines in
    ends_after old mid new (Before content (meaning file starts n)) (IsAnswer Rises content (meaning file starts n))
    (lines_after p start.memory some.steps) Memory memory_line r lines'
    (lines_after p start.memory some.steps, inr (source_begins content file starts n some.steps p start h some.within), refl) told prefix

-- a write failed in a line
pub meaning_broke : (Rises : List ℕ → Type 0) (content : Content) (file : List ℕ) (starts : Option (List ℕ)) (n : ℕ) (p : Syntax) (start : StartValue)
    (memory : List ℤ) (old new : Option (List ℕ))
    → HasSource content file starts p start → memory ≡ start.memory → BreaksOff old new p memory n
    → EndsBy old new (Before content (meaning file starts n)) (IsAnswer Rises content (meaning file starts n)) WriteFault
meaning_broke Rises content file starts n p start memory old new h is some =
    let prefix' : AppendsPrefix old new (lines_after p start.memory some.steps) =
    subst (λ (m : List ℤ). AppendsPrefix old new (lines_after p m some.steps)) is some.prefix in (
      Memory,
      lines_after p start.memory some.steps ++ memory_line,
      (lines_after p start.memory some.steps, inr (source_begins content file starts n some.steps p start h some.within), refl),
      prefix_longer old new (lines_after p start.memory some.steps) memory_line prefix',
    )

-- ---- `check`

pub check_stops : (Rises : List ℕ → Type 0) (content : Content) (file : List ℕ) (s : Status) (t : List ℕ) → CheckStops Rises content file s t
    → IsAnswer Rises content (check file) s t
check_stops Rises content file s t (inl h) = inl h
check_stops Rises content file s t (inr (p, reads, inl h)) = inr (p, reads, inl h)
check_stops Rises content file s t (inr (p, reads, inr (q, types, h))) = absurd h

-- ---- `recheck`

-- a stop that is handed on
pub handed_on : {T : Type 0} (r : Result T Stop) (e : Stop) (P : Stop → Type 0) → IsErrAnd r (λ x. x ≡ e) → P e → IfErr r P
handed_on (Ok x) e P h k = tt
handed_on (Err x) e P h k = subst P (sym h) k

-- the certificate stops, which is read later
pub later_certificate_stops : (Rises Rises' : List ℕ → Type 0) (content content' : Content) (file certificate : List ℕ) (p : Syntax) (e : Stop)
    → ((name : List ℕ) → Rises name → Rises' name) → ((name : List ℕ) → content name ≡ content' name) → Reads (content' file) p
    → IsStop (CertificateStops (Rises certificate) (content certificate) p) e → IsStop (IsAnswer Rises' content' (recheck file certificate)) e
later_certificate_stops Rises Rises' content content' file certificate p e f same reads stop =
    broke_map (CertificateStops (Rises certificate) (content certificate) p) (IsAnswer Rises' content' (recheck file certificate)) (status_of e) (stop_text e)
    (λ k. inr (
      p,
      reads,
      inl (subst (λ (c : Option (Option (List ℕ))). CertificateStops (Rises' certificate) c p (status_of e) (stop_text e)) (same certificate)
          (certificate_rise (Rises certificate) (Rises' certificate) (content certificate) p (status_of e) (stop_text e) (f certificate) k)),
    )) stop
