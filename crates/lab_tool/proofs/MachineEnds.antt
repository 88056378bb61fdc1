-- How a call ends that reads a machine first.
use Rattle.std.proofs.Common.{◌≡◌, ◌≢◌, ℕ, List, [], ◌∷◌, ◌++◌, Option, Result, Ok, Err, refl, subst, inl, inr}
use Rattle.std.proofs.Math.Path.{fun_ext}
use Rattle.std.specs.Io.KnownBytes.{Appends}
use Rattle.tim_base.specs.Faults.{Rose}
use Rattle.tim_base.specs.Kept.{KeepsFiles, NoCountFalls}
use Rattle.tim_base.specs.Logs.{Fetched}
use Rattle.tim_base.specs.Sinks.{AppendsPrefix}
use Rattle.tim_base.proofs.LogLemmas.{Grows-trans}
use Rattle.hardware.specs.declared.make.MakeHardware.{MakeHardware}
use Rattle.tool_texts.specs.declared.status.Status.{Status}
use Rattle.tool_texts.specs.declared.status.Status.TheVariants as status
use Rattle.tool_texts.specs.declared.stop.Stop.{Stop}
use Rattle.tool_texts.specs.Ends.{Broke, EndsBy, IsStop, status_of, stop_text}
use Rattle.tool_texts.proofs.EndLemmas.{ends_map, ends_stop}
use Rattle.tool_stages.specs.Content.{Content}
use Rattle.tool_stages.specs.Fetches.{Fetches, HasFetched}
use Rattle.tool_stages.specs.declared.envs.Environment.{Environment}
use Rattle.tool_stages.specs.declared.envs.Environment.TheVariants.{Described}
use Rattle.tool_stages.proofs.FetchLemmas.{begun_then, fetch_stop, fetched_by}
use Rattle.tool_stages.proofs.StopLemmas.{rose_since}
use Rattle.machine_stage.specs.Stage.{MachineIs, MachineStops}
use Rattle.lab_words.specs.QuestionAsked.{Asked, described}
use Rattle.lab_tool.specs.Answers.{BeforeIn, IsAnswerIn}
use Rattle.lab_tool.specs.Machines.{BeforeOn, OnMachine}
use Rattle.lab_tool.proofs.RiseLemmas.{answer_rises}

-- ---- no machine

-- no stop is a write fault
pub no_write : (R : Type 0) (c : Option (Option (List ℕ))) (e : Stop) → IsStop (MachineStops R c) e → status_of e ≢ status.WriteFault
no_write R c e h is = subst (λ (s : Status). Broke (MachineStops R c) s (stop_text e)) is h

pub stop_ends : (old new : Option (List ℕ)) (Rises : List ℕ → Type 0) (content : Content) (file : List ℕ) (Before : Environment → List ℕ → Type 0)
    (Answer : Environment → Status → List ℕ → Type 0) (e : Stop) (r : Status) → IsStop (MachineStops (Rises file) (content file)) e
    → (r ≢ status.WriteFault → (r ≡ status_of e) × Appends old new (stop_text e)) → (r ≡ status.WriteFault → AppendsPrefix old new (stop_text e))
    → EndsBy old new (BeforeOn content (described file) Before) (OnMachine Rises content (described file) Answer) r
stop_ends old new Rises content file Before Answer e r =
    ends_stop old new (BeforeOn content (described file) Before) (MachineStops (Rises file) (content file))
    (OnMachine Rises content (described file) Answer) (status_of e) (stop_text e) r (inl refl) (λ u k. inl k)

pub stop_fetched : (file : List ℕ) (others : List (List ℕ)) (old new : Option (List Fetched)) (made : Result MakeHardware Stop) (e : Stop) (r : Status)
    → made ≡ Err e → Fetches (file ∷ []) old new made → (r ≢ status.WriteFault → r ≡ status_of e) → HasFetched (file ∷ others) r old new
stop_fetched file others old new made e r is h told =
    fetched_by {A = MakeHardware} (file ∷ others) old new status.Done r (Err e) (λ e. absurd cc)
    (fetch_stop MakeHardware MakeHardware (file ∷ []) others old new e
    (subst (λ (z : Result MakeHardware Stop). Fetches {A = MakeHardware} (file ∷ []) old new z) is h)) told

-- ---- a machine, and then the question

pub answer_ends : (old new : Option (List ℕ)) (first between : Content) (before then now : List ℕ → ℕ) (file : List ℕ) (a : Asked) (m : MakeHardware)
    (r : Status) → KeepsFiles first between → NoCountFalls before then → MachineIs (first file) m
    → EndsBy old new (BeforeIn (Described m) between a) (IsAnswerIn (Described m) (λ name. Rose (then name) (now name)) between a) r
    → EndsBy old new (BeforeOn first (described file) (λ e. BeforeIn e first a))
    (OnMachine (λ name. Rose (before name) (now name)) first (described file) (λ e. IsAnswerIn e (λ name. Rose (before name) (now name)) first a)) r
answer_ends old new first between before then now file a m r kept later is h =
    let late = λ (name : List ℕ). Rose (then name) (now name) in
    let rises = λ (name : List ℕ). Rose (before name) (now name) in
    let same : between ≡ first = fun_ext kept in
    ends_map old new (BeforeIn (Described m) first a) (BeforeOn first (described file) (λ e. BeforeIn e first a))
    (IsAnswerIn (Described m) late first a) (OnMachine rises first (described file) (λ e. IsAnswerIn e rises first a)) r
    (λ b k. inr (m, is, k))
    (λ s t k. inr (m, is, answer_rises late rises first (λ name. rose_since (before name) (then name) (now name) (later name)) (Described m) a s t k))
    (subst (λ (z : Content). EndsBy old new (BeforeIn (Described m) z a) (IsAnswerIn (Described m) late z a) r) same h)

pub answer_fetched : (file : List ℕ) (others : List (List ℕ)) (old between new : Option (List Fetched)) (made : Result MakeHardware Stop) (m : MakeHardware)
    (r : Status) → made ≡ Ok m → Fetches (file ∷ []) old between made → HasFetched others r between new → HasFetched (file ∷ others) r old new
answer_fetched file others old between new made m r is g h =
    let first = subst (λ (z : Result MakeHardware Stop). Fetches {A = MakeHardware} (file ∷ []) old between z) is g in
    record {
      log = first.0 ++ h.log;
      failed = h.failed;
      grows = Grows-trans old between new first.0 h.log first.1 h.grows;
      begun = begun_then (file ∷ []) others h.failed first.0 h.log first.2 h.begun;
      fault = h.fault;
      told = h.told;
    }
