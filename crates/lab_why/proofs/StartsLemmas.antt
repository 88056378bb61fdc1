-- What is told of starts: its pieces, and that it is one text.
use Rattle.std.proofs.Common.{◌≡◌, ◌≢◌, ◌≤◌, ℕ, List, ◌++◌, length, map, Option, sym, ap, subst, ◌∙◌, inl, inr, codes, Result, Ok, Err, IfOk}
use Rattle.std.specs.Prelude.{◌⊎◌}
use Rattle.std.proofs.lemmas.List.{length-map}
use Rattle.text_base.specs.declared.pos.Memory.{Memory}
use Rattle.tim_base.specs.Told.{limit, IsTold}
use Rattle.mit_syntax.specs.Plan.{count, mitigates}
use Rattle.mit_syntax.specs.Program.{Syntax, plan_of}
use Rattle.start_file.specs.declared.start.Start.{Start}
use Rattle.start_file.specs.declared.fault.StartFault.{StartFault}
use Rattle.start_file.specs.declared.fault.StartFault.TheVariants as start
use Rattle.start_file.specs.Starts.{seen, Gives}
use Rattle.start_faults.specs.Told.{TellsStarts}
use Rattle.tool_texts.specs.declared.status.Status.{Status}
use Rattle.tool_texts.specs.declared.status.Status.TheVariants as status
use Rattle.tool_texts.specs.Texts.{accepted_line, number_line, start_fault_line, starts}
use Rattle.tool_texts.specs.Ends.{Nothing, Tells}
use Rattle.tool_stages.specs.Content.{Content}
use Rattle.tim_base.specs.Logs.{Fetched}
use Rattle.tim_base.proofs.LogLemmas.{Grows-trans}
use Rattle.tool_stages.specs.Fetches.{Fetches, FileStops, HasFetched}
use Rattle.tool_stages.proofs.FetchLemmas.{begun_more, begun_then}
use Rattle.timing_types.specs.Labelled.{TypedProgram}
use Rattle.lab_why.specs.declared.explained.Explained.TheVariants as explained
use Rattle.lab_why.specs.declared.starts.Told.{Told}
use Rattle.lab_why.specs.Explained.{IsExplained}
use Rattle.lab_why.specs.Starts.{HasStartsTold, StartsStop, IsTaken, IsTakenRead, IsStartsAnswer}

module _ (T : List ℕ) (short : length T ≤ limit) (p : Syntax) where
  -- bytes that are no starts; a and b are the pieces that are written
  pub has_starts : (f : StartFault) (line more a b t : List ℕ) → Gives p T (Err f) → f ≢ start.Memory → line ≡ start_fault_line f → TellsStarts p T f more
      → a ≡ line → b ≡ more → t ≡ a ++ b → (c : Option (Option (List ℕ))) → IsTold c T → HasStartsTold c p t
  has_starts f line more a b t is none first tells e g whole c are =
      record {
        line = line;
        stops = record { bytes = T; are = are; short = short; fault = f; none = none; is = is; line = first };
        more = more;
        tells = tells;
        text = whole ∙ ap (λ (z : List ℕ). z ++ b) e ∙ ap (λ (z : List ℕ). line ++ z) g;
      }

  -- bytes that are starts
  pub has_taken : (ss : List Start) (n : ℕ) (r : Result Told Memory) → n ≡ length ss → Gives p T (Ok (map seen ss)) → IfOk r (λ x. x.status ≡ status.Done)
      → IfOk r (λ x. x.text.items ≡ accepted_line (count (plan_of p)) (mitigates (plan_of p)) ++ number_line (codes "starts ") n)
      → IfOk r (λ x. (c : Option (Option (List ℕ))) → IsTold c T → IsTakenRead c p x.status x.text.items)
  has_taken ss n (Ok x) e g s t = λ c are.
      let runs : n ≡ length (map seen ss) = e ∙ sym (length-map ss seen) in
      inr (
        map seen ss,
        (T, are, short, g),
        (
          s,
          t
              ∙ ap (λ (k : ℕ). accepted_line (count (plan_of p)) (mitigates (plan_of p)) ++ number_line (codes "starts ") k) runs,
        ),
      )
  has_taken ss n (Err m) e g s t = t

pub not_taken : (T : List ℕ) (p : Syntax) (r : Result Told Memory) → IfOk r (λ x. x.status ≡ status.Starts)
    → IfOk r (λ x. (c : Option (Option (List ℕ))) → IsTold c T → HasStartsTold c p x.text.items)
    → IfOk r (λ x. (c : Option (Option (List ℕ))) → IsTold c T → IsTakenRead c p x.status x.text.items)
not_taken T p (Ok x) s t = λ c are. inl (subst (λ (z : Status). StartsStop ⊥ c p z x.text.items) (sym s) (t c are))
not_taken T p (Err m) s t = t

-- a file that gives no bytes
pub file_starts : (R : Type 0) (c : Option (Option (List ℕ))) (p : Syntax) (s : Status) (t : List ℕ) → FileStops R c starts s t → StartsStop R c p s t
file_starts R c p status.Done t h = absurd h
file_starts R c p status.Refused t h = absurd h
file_starts R c p status.Syntax t h = absurd h
file_starts R c p status.Starts t h = absurd h
file_starts R c p status.Usage t h = absurd h
file_starts R c p status.ReadFault t h = h
file_starts R c p status.WriteFault t h = absurd h
file_starts R c p status.TooLong t h = h
file_starts R c p status.Budget t h = absurd h
file_starts R c p status.Disagree t h = absurd h
file_starts R c p status.Unfinished t h = absurd h
file_starts R c p status.Memory t h = absurd h
file_starts R c p status.Rejected t h = absurd h

-- a count that rose lately has risen
pub stop_since : (R R' : Type 0) (c : Option (Option (List ℕ))) (p : Syntax) (s : Status) (t : List ℕ) → (R → R') → StartsStop R c p s t → StartsStop R' c p s t
stop_since R R' c p status.Done t f h = absurd h
stop_since R R' c p status.Refused t f h = absurd h
stop_since R R' c p status.Syntax t f h = absurd h
stop_since R R' c p status.Starts t f h = h
stop_since R R' c p status.Usage t f h = absurd h
stop_since R R' c p status.ReadFault t f h = (f h.0, h.1)
stop_since R R' c p status.WriteFault t f h = absurd h
stop_since R R' c p status.TooLong t f h = h
stop_since R R' c p status.Budget t f h = absurd h
stop_since R R' c p status.Disagree t f h = absurd h
stop_since R R' c p status.Unfinished t f h = absurd h
stop_since R R' c p status.Memory t f h = absurd h
stop_since R R' c p status.Rejected t f h = absurd h

pub taken_rise : (R R' : Type 0) (c : Option (Option (List ℕ))) (p : Syntax) (s : Status) (t : List ℕ) → (R → R') → IsTaken R c p s t → IsTaken R' c p s t
taken_rise R R' c p s t f (inl h) = inl (stop_since R R' c p s t f h)
taken_rise R R' c p s t f (inr h) = inr h

-- what is told of a file later
pub taken_since : (R R' : Type 0) (c c' : Option (Option (List ℕ))) (p : Syntax) (s : Status) (t : List ℕ) → c' ≡ c → (R → R') → IsTaken R c' p s t
    → IsTaken R' c p s t
taken_since R R' c c' p s t e f h = taken_rise R R' c p s t f (subst (λ (z : Option (Option (List ℕ))). IsTaken R z p s t) e h)

-- it ends as done, or as starts that are refused
pub never_fault : (s : Status) → (s ≡ status.Done) ⊎ (s ≡ status.Starts) → s ≢ status.WriteFault
never_fault s (inl h) e = absurd cc
never_fault s (inr h) e = absurd cc

pub never_read_status : (s : Status) → (s ≡ status.Done) ⊎ (s ≡ status.Starts) → s ≢ status.ReadFault
never_read_status s (inl h) e = absurd cc
never_read_status s (inr h) e = absurd cc

pub taken_tells : (R : Type 0) (c : Option (Option (List ℕ))) (p : Syntax) (s : Status) (t : List ℕ) → (s ≡ status.Done) ⊎ (s ≡ status.Starts)
    → IsTaken R c p s t → Tells Nothing (IsTaken R c p) s t
taken_tells R c p s t (inl e) h = subst (λ (z : Status). Tells Nothing (IsTaken R c p) z t) (sym e) (subst (λ (z : Status). IsTaken R c p z t) e h)
taken_tells R c p s t (inr e) h = subst (λ (z : Status). Tells Nothing (IsTaken R c p) z t) (sym e) (subst (λ (z : Status). IsTaken R c p z t) e h)

-- of a program that is accepted, what is told of its starts is the answer
pub accepted_then : (Rises : List ℕ → Type 0) (R : Type 0) (content : Content) (held : Option (Option (List ℕ))) (file other : List ℕ) (q : TypedProgram)
    (p : Syntax) (s : Status) (t : List ℕ) → IsExplained (content file) (explained.Accepted q) → p ≡ q.labelled.program → held ≡ content other
    → (R → Rises other) → IsTaken R held p s t → IsStartsAnswer Rises content file other s t
accepted_then Rises R content held file other q p s t told program same rise h =
    let is : p ≡ told.0 = program ∙ told.2.program in
    inr (
      told.0,
      told.1,
      inr (
        q.labelled,
        told.2,
        taken_since R (Rises other) (content other) held told.0 s t same rise
            (subst (λ (z : Syntax). IsTaken R held z s t) is h),
      ),
    )

-- ---- what is fetched

-- a file was given, and then others are fetched
pub fetched_then : {A : Type 0} (names more : List (List ℕ)) (old mid new : Option (List Fetched)) (x : A) (r : Status) → Fetches {A = A} names old mid (Ok x)
    → HasFetched more r mid new → HasFetched (names ++ more) r old new
fetched_then names more old mid new x r g h =
    record {
      log = g.0 ++ h.log;
      failed = h.failed;
      grows = Grows-trans old mid new g.0 h.log g.1 h.grows;
      begun = begun_then names more h.failed g.0 h.log g.2 h.begun;
      fault = h.fault;
      told = h.told;
    }

-- others are not come to
pub fetched_before : (names more : List (List ℕ)) (old new : Option (List Fetched)) (r : Status) → HasFetched names r old new
    → HasFetched (names ++ more) r old new
fetched_before names more old new r h =
    record {
      log = h.log;
      failed = h.failed;
      grows = h.grows;
      begun = begun_more names more h.failed h.log h.begun;
      fault = h.fault;
      told = h.told;
    }
