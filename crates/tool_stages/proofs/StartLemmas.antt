-- A start file that is taken has a first start, and the stops of a file that was read.
use Rattle.std.proofs.Common.{◌≡◌, refl, sym, ap, subst, ℕ, ◌+◌, ◌<◌, ◌≤◌, ◌==◌, Bool, true, false, cond, nat_lt, List, [], ◌∷◌, length, map, All, get_or}
use Rattle.std.proofs.Common.{Option, Some, None, Result, Ok, Err, arith, codes}
use Rattle.std.proofs.lemmas.Bool.{ltb-false}
use Rattle.std.proofs.lemmas.List.{length-map}
use Rattle.toml.specs.Data.{Data, Items, no_items, item, Members, get_member, array}
use Rattle.toml.specs.Data as toml
use Rattle.mit_syntax.specs.Program.{Syntax}
use Rattle.start_file.specs.declared.fault.StartFault.{StartFault}
use Rattle.start_file.specs.declared.fault.StartFault.TheVariants.{NoRuns, TooMany, UnknownKey}
use Rattle.start_file.specs.declared.start.Start.{Start}
use Rattle.start_file.specs.declared.version.Version.{Version}
use Rattle.start_file.specs.Tables.{keys_pass, count_items}
use Rattle.start_file.specs.Versions.{version_of}
use Rattle.start_file.specs.Starts.{StartValue, seen, is_top_key, with_first, run_of, runs_from, counted_runs, runs_of, versioned, starts_in, IsFor}
use Rattle.tool_texts.specs.declared.stop.Stop.{Stop}
use Rattle.tool_texts.specs.Ends.{IsStop, status_of, stop_text}
use Rattle.tool_stages.specs.Stages.{StartsAre, StartStops}
use Rattle.tool_texts.proofs.EndLemmas.{broke_map}
use Rattle.tool_stages.proofs.StopLemmas.{start_rise}

abbrev pub Runs : Type 0
Runs = Result (List StartValue) StartFault

-- an answer behind a test is not the refusal
pub then_part : (b : Bool) (ss : List StartValue) (r : Runs) (f : StartFault) → Ok ss ≡ cond b r (Err f) → Ok ss ≡ r
then_part true ss r f e = e
then_part false ss r f e = absurd cc

else_part : (b : Bool) (ss : List StartValue) (r : Runs) (f : StartFault) → Ok ss ≡ cond b (Err f) r → Ok ss ≡ r
else_part true ss r f e = absurd cc
else_part false ss r f e = e

some_first : (ss : List StartValue) (a : Result StartValue StartFault) (b : Runs) → Ok ss ≡ with_first a b → 0 < length ss
some_first ss (Err f) b e = absurd cc
some_first ss (Ok s) (Err f) e = absurd cc
some_first ss (Ok s) (Ok r) e = let same : ss ≡ s ∷ r = cc in omega (arith, ap length same)

-- an answer behind a test that refuses is one where the test fails
else_test : (b : Bool) (ss : List StartValue) (r : Runs) (f : StartFault) → Ok ss ≡ cond b (Err f) r → b ≡ false
else_test true ss r f e = absurd cc
else_test false ss r f e = refl

one_more : (ss : List StartValue) (a : Result StartValue StartFault) (b : Runs) (k : ℕ) → ((rest : List StartValue) → Ok rest ≡ b → length rest ≡ k)
    → Ok ss ≡ with_first a b → length ss ≡ 1 + k
one_more ss (Err f) b k h e = absurd cc
one_more ss (Ok s) (Err f) k h e = absurd cc
one_more ss (Ok s) (Ok r) k h e = let same : ss ≡ s ∷ r = cc in let n = h r refl in omega (arith, ap length same, n)

as_many : (p : Syntax) (v : Version) (n : ℕ) (ds : Items) (ss : List StartValue) → Ok ss ≡ runs_from p v n ds → length ss ≡ count_items ds
as_many p v n no_items ss e = let same : ss ≡ [] = cc in ap length same
as_many p v n (item d ds) ss e = one_more ss (run_of p v n d) (runs_from p v (n + 1) ds) (count_items ds) (λ rest k. as_many p v (n + 1) ds rest k) e

-- there are 1 to 4,096
abbrev pub IsCounted : List StartValue → Type 0
IsCounted ss = (0 < length ss) × (length ss ≤ 4096)

some_counted : (p : Syntax) (v : Version) (ds : Items) (ss : List StartValue) → Ok ss ≡ counted_runs p v ds → IsCounted ss
some_counted p v no_items ss e = absurd cc
some_counted p v (item d ds) ss e =
    let many = else_part (count_items (item d ds) == 0) ss _ NoRuns e in
    let few = ltb-false 4096 (count_items (item d ds))
    (else_test (nat_lt 4096 (count_items (item d ds))) ss (runs_from p v 1 (item d ds)) (TooMany (count_items (item d ds))) many) in
    let all = else_part (nat_lt 4096 (count_items (item d ds))) ss (runs_from p v 1 (item d ds)) (TooMany (count_items (item d ds))) many in
    let n = as_many p v 1 (item d ds) ss all in
    (some_first ss (run_of p v 1 d) (runs_from p v 2 ds) all, omega (arith, few, n))

pub some_runs : (p : Syntax) (v : Version) (d : Option Data) (ss : List StartValue) → Ok ss ≡ runs_of p v d → IsCounted ss
some_runs p v None ss e = absurd cc
some_runs p v (Some (array ds)) ss e = some_counted p v ds ss e
some_runs p v (Some (toml.string x)) ss e = absurd cc
some_runs p v (Some (toml.integer x)) ss e = absurd cc
some_runs p v (Some (toml.float x)) ss e = absurd cc
some_runs p v (Some (toml.boolean x)) ss e = absurd cc
some_runs p v (Some (toml.datetime x)) ss e = absurd cc
some_runs p v (Some (toml.table x)) ss e = absurd cc

some_versioned : (p : Syntax) (v : Option Version) (ms : Members) (ss : List StartValue) → Ok ss ≡ versioned p v ms → IsCounted ss
some_versioned p None ms ss e = absurd cc
some_versioned p (Some v) ms ss e =
    some_runs p v (get_member (codes "run") ms) ss (then_part (keys_pass is_top_key ms) ss (runs_of p v (get_member (codes "run") ms)) (UnknownKey 0) e)

pub some_starts : (p : Syntax) (d : Option Members) (ss : List StartValue) → Ok ss ≡ starts_in p d → IsCounted ss
some_starts p None ss e = absurd cc
some_starts p (Some ms) ss e = some_versioned p (version_of (get_member (codes "version") ms)) ms ss e

-- how many starts there are
pub count_given : (content : Option (Option (List ℕ))) (p : Syntax) (ss : List StartValue) → StartsAre content p ss → (0 < length ss) × (length ss ≤ 4096)
count_given content p ss h = some_starts p h.3.0 ss h.3.2

pub some_given : (content : Option (Option (List ℕ))) (p : Syntax) (ss : List Start) → StartsAre content p (map seen ss) → 0 < length ss
some_given content p ss h =
    let some = count_given content p (map seen ss) h in
    omega (arith, some.0, length-map ss seen)

pub first_given : (content : Option (Option (List ℕ))) (p : Syntax) (ss : List Start) (s : Start) → StartsAre content p (map seen ss) → s ≡ get_or ss 0 s
    → (others : List StartValue) × StartsAre content p (seen s ∷ others)
first_given content p [] s h e = absurd (let some = some_given content p [] h in omega (arith, some))
first_given content p (t ∷ ts) s h e = (map seen ts, subst (λ (z : Start). StartsAre content p (seen z ∷ map seen ts)) (sym e) h)

pub first_fits : (p : Syntax) (ss : List Start) (s : Start) → All (IsFor p) (map seen ss) → 0 < length ss → s ≡ get_or ss 0 s → IsFor p (seen s)
first_fits p [] s h k e = absurd (omega (arith, k))
first_fits p (t ∷ ts) s h k e = subst (λ (z : Start). IsFor p (seen z)) (sym e) (h 0 (seen t) (omega arith))

-- where a file was read, its stops are those of its starts
pub start_stops : (R : Type 0) (content : Option (Option (List ℕ))) (p : Syntax) (e : Stop) → IsStop (StartStops ⊥ content p) e
    → IsStop (StartStops R content p) e
start_stops R content p e h =
    broke_map (StartStops ⊥ content p) (StartStops R content p) (status_of e) (stop_text e)
    (start_rise ⊥ R content p (status_of e) (stop_text e) (λ n. absurd n)) h
