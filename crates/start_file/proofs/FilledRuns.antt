-- What runs share, filled into them.
use Rattle.std.proofs.Common.{◌≡◌, ◌∙◌, refl, sym, ap, ap₂, ℕ, ℤ, ◌+◌, List, Bool, true, false, cond, ◌&&◌, pos, replicate}
use Rattle.std.proofs.Common.{Option, None, Some, Result, Ok, Err, codes}
use Rattle.std.specs.Prelude.{is_some, nat_lt, ◌||◌, ◌==◌}
use Rattle.std.specs.Str.{bytes_eq}
use Rattle.std.proofs.lemmas.Bool.{cond-true, cond-false, and_parts}
use Rattle.toml.specs.Data.{Data, Items, no_items, item, Members, no_members, member, get_member, string, integer, float, boolean, datetime, array, table}
use Rattle.env_contract.specs.declared.place.Touch.{Touch}
use Rattle.mit_syntax.specs.Declarations.{Declaration, variables}
use Rattle.mit_syntax.specs.Program.{Syntax}
use Rattle.start_file.specs.declared.fault.StartFault.{StartFault}
use Rattle.start_file.specs.declared.fault.StartFault.TheVariants.{UnknownKey, NotNumber, BadTouch, NoRuns, TooMany}
use Rattle.start_file.specs.declared.version.Version.{Version}
use Rattle.start_file.specs.declared.version.Version.TheVariants.{Two}
use Rattle.start_file.specs.Tables.{keys_pass, count_items, members_in}
use Rattle.start_file.specs.Touches.{touches_in}
use Rattle.start_file.specs.Values.{slot_of, is_key, is_value, names_pass, values_pass, memory_passes, memory_of}
use Rattle.start_file.specs.Starts.{StartValue, is_run_key, run_keys_pass, with_touches, run_in, run_of, with_first, runs_from, runs_of}
use Rattle.start_file.specs.Shared.{filled, filled_memory, filled_members, filled_run, filled_items, filled_runs, IsShared}
use Rattle.start_file.specs.Shared.{is_list_key, list_keys_pass, shared_in}
use Rattle.start_file.proofs.Filling.{filled_at, filled_none}
use Rattle.start_file.proofs.Written.{get_more, zero_memory}

-- what is filled in passes, so all passes where the own keys do
pub filled_keys : (test : List ℕ → Bool) (own ms : Members) → keys_pass test ms ≡ true → keys_pass test (filled own ms) ≡ keys_pass test own
filled_keys test own no_members h = refl
filled_keys test own (member l d ms) h =
    by (get_member l own) (and_parts (test l) (keys_pass test ms) h).0 (filled_keys test own ms (and_parts (test l) (keys_pass test ms) h).1)
  where
    by : (o : Option Data) → test l ≡ true → keys_pass test (filled own ms) ≡ keys_pass test own
        → keys_pass test (cond (is_some o) (filled own ms) (member l d (filled own ms))) ≡ keys_pass test own
    by (Some x) good more = more
    by None good more = ap (λ b. b && keys_pass test (filled own ms)) good ∙ more

filled_values : (ds : List Declaration) (own ms : Members) → values_pass ds ms ≡ true → values_pass ds (filled own ms) ≡ values_pass ds own
filled_values ds own no_members h = refl
filled_values ds own (member l d ms) h =
    by (get_member l own) (and_parts (is_value (slot_of ds l) d) (values_pass ds ms) h).0
    (filled_values ds own ms (and_parts (is_value (slot_of ds l) d) (values_pass ds ms) h).1)
  where
    by : (o : Option Data) → is_value (slot_of ds l) d ≡ true → values_pass ds (filled own ms) ≡ values_pass ds own
        → values_pass ds (cond (is_some o) (filled own ms) (member l d (filled own ms))) ≡ values_pass ds own
    by (Some x) good more = more
    by None good more = ap (λ b. b && values_pass ds (filled own ms)) good ∙ more

-- the memory of a filled run is the filled one, and its other keys stay
memory_there : (shared ms : Members) → get_member (codes "memory") (filled_members shared ms) ≡ Some (filled_memory shared (get_member (codes "memory") ms))
memory_there shared ms =
    let m = filled_memory shared (get_member (codes "memory") ms) in
    filled_at (codes "memory") (member (codes "memory") m no_members) ms

touch_there : (shared ms : Members) → get_member (codes "touch") (filled_members shared ms) ≡ get_member (codes "touch") ms
touch_there shared ms =
    let m = filled_memory shared (get_member (codes "memory") ms) in
    filled_at (codes "touch") (member (codes "memory") m no_members) ms

-- one key that passes, and behind it the others
module _ (m : Data) (l : List ℕ) (d : Data) (ms : Members) where
  abbrev rest_filled : Members
  rest_filled = filled (member (codes "memory") m no_members) ms

  abbrev key_step : Option Data → Bool
  key_step o = keys_pass is_run_key (cond (is_some o) rest_filled (member l d rest_filled))

  key_more : (b : Bool) → bytes_eq l (codes "memory") ≡ b → keys_pass is_run_key rest_filled ≡ keys_pass is_run_key ms
      → key_step (get_member l (member (codes "memory") m no_members)) ≡ (is_run_key l && keys_pass is_run_key ms)
  key_more true e more =
      ap key_step (get_more l (codes "memory") m no_members ∙ cond-true (bytes_eq l (codes "memory")) (Some m) None e) ∙ more
      ∙ sym (ap (λ b. (b || bytes_eq l (codes "touch")) && keys_pass is_run_key ms) e)
  key_more false e more =
      ap key_step (get_more l (codes "memory") m no_members ∙ cond-false (bytes_eq l (codes "memory")) (Some m) None e)
      ∙ ap (λ b. is_run_key l && b) more

-- a key passes in a filled run where it passes in the run
known_behind : (m : Data) (ms : Members) → keys_pass is_run_key (filled (member (codes "memory") m no_members) ms) ≡ keys_pass is_run_key ms
known_behind m no_members = refl
known_behind m (member l d ms) = key_more m l d ms (bytes_eq l (codes "memory")) refl (known_behind m ms)

known_there : (shared ms : Members) → keys_pass is_run_key (filled_members shared ms) ≡ keys_pass is_run_key ms
known_there shared ms = known_behind (filled_memory shared (get_member (codes "memory") ms)) ms

module _ (p : Syntax) (v : Version) (shared : Members)
    (known : keys_pass (λ w. is_key v (slot_of p.declarations w)) shared ≡ true) (good : values_pass p.declarations shared ≡ true) where
  names_there : (o : Option Data) → names_pass v p.declarations (Some (filled_memory shared o)) ≡ names_pass v p.declarations o
  names_there None = known
  names_there (Some (table own)) = filled_keys (λ w. is_key v (slot_of p.declarations w)) own shared known
  names_there (Some (string x)) = refl
  names_there (Some (integer x)) = refl
  names_there (Some (float x)) = refl
  names_there (Some (boolean x)) = refl
  names_there (Some (datetime x)) = refl
  names_there (Some (array x)) = refl

  passes_there : (o : Option Data) → memory_passes p.declarations (Some (filled_memory shared o)) ≡ memory_passes p.declarations o
  passes_there None = good
  passes_there (Some (table own)) = filled_values p.declarations own shared good
  passes_there (Some (string x)) = refl
  passes_there (Some (integer x)) = refl
  passes_there (Some (float x)) = refl
  passes_there (Some (boolean x)) = refl
  passes_there (Some (datetime x)) = refl
  passes_there (Some (array x)) = refl

  -- what a filled run gives, by what the run itself has
  abbrev pub over : ℕ → Members → Result StartValue StartFault
  over n ms =
      let o = get_member (codes "memory") ms in
      cond (run_keys_pass p v ms)
      (cond (memory_passes p.declarations o)
      (with_touches n (memory_of p.declarations (filled (members_in o) shared)) (touches_in v p.order (get_member (codes "touch") ms)))
      (Err (NotNumber n)))
      (Err (UnknownKey n))

  memory_filled : (n : ℕ) (o : Option Data) (r : Option (List Touch)) → cond (memory_passes p.declarations o)
      (with_touches n (memory_of p.declarations (members_in (Some (filled_memory shared o)))) r) (Err (NotNumber n))
      ≡ cond (memory_passes p.declarations o) (with_touches n (memory_of p.declarations (filled (members_in o) shared)) r) (Err (NotNumber n))
  memory_filled n None r = ap (λ ms. with_touches n (memory_of p.declarations ms) r) (sym (filled_none shared))
  memory_filled n (Some (table own)) r = refl
  memory_filled n (Some (string x)) r = refl
  memory_filled n (Some (integer x)) r = refl
  memory_filled n (Some (float x)) r = refl
  memory_filled n (Some (boolean x)) r = refl
  memory_filled n (Some (datetime x)) r = refl
  memory_filled n (Some (array x)) r = refl

  pub run_filled : (n : ℕ) (ms : Members) → run_in p v n (filled_members shared ms) ≡ over n ms
  run_filled n ms =
      let o = get_member (codes "memory") ms in
      let f = get_member (codes "touch") ms in
      let keys : run_keys_pass p v (filled_members shared ms) ≡ run_keys_pass p v ms =
      ap₂ (λ a b. a && b) (known_there shared ms) (ap (names_pass v p.declarations) (memory_there shared ms) ∙ names_there o) in
      ap₂ (λ (m t : Option Data). cond (run_keys_pass p v (filled_members shared ms))
      (cond (memory_passes p.declarations m) (with_touches n (memory_of p.declarations (members_in m)) (touches_in v p.order t)) (Err (NotNumber n)))
      (Err (UnknownKey n))) (memory_there shared ms) (touch_there shared ms)
      ∙ ap₂ (λ b c. cond b
      (cond c (with_touches n (memory_of p.declarations (members_in (Some (filled_memory shared o)))) (touches_in v p.order f)) (Err (NotNumber n)))
      (Err (UnknownKey n))) keys (passes_there o)
      ∙ ap (λ r. cond (run_keys_pass p v ms) r (Err (UnknownKey n))) (memory_filled n o (touches_in v p.order f))

-- what one run gives with values that are shared
module _ (p : Syntax) (v : Version) (shared : Members) (values : List ℤ) (is : IsShared p v shared values) (n : ℕ) (ms : Members) where
  all_over : run_in p v n (filled_members shared ms) ≡ over p v shared is.names is.passes n ms
  all_over = run_filled p v shared is.names is.passes n ms

  pub run_unknown : run_keys_pass p v ms ≡ false → run_in p v n (filled_members shared ms) ≡ Err (UnknownKey n)
  run_unknown k = all_over ∙ rw k

  pub run_wrong : run_keys_pass p v ms ≡ true → memory_passes p.declarations (get_member (codes "memory") ms) ≡ false
      → run_in p v n (filled_members shared ms) ≡ Err (NotNumber n)
  run_wrong k m = all_over ∙ rw (k, m)

  pub run_untouched : run_keys_pass p v ms ≡ true → memory_passes p.declarations (get_member (codes "memory") ms) ≡ true
      → touches_in v p.order (get_member (codes "touch") ms) ≡ None → run_in p v n (filled_members shared ms) ≡ Err (BadTouch n)
  run_untouched k m t = all_over ∙ rw (k, m, t)

  pub run_done : run_keys_pass p v ms ≡ true → memory_passes p.declarations (get_member (codes "memory") ms) ≡ true
      → (m : List ℤ)
      → ((x : Members) → values ≡ memory_of p.declarations x → m ≡ memory_of p.declarations (filled (members_in (get_member (codes "memory") ms)) x))
      → (ts : List Touch) → touches_in v p.order (get_member (codes "touch") ms) ≡ Some ts
      → run_in p v n (filled_members shared ms) ≡ Ok (record { memory = m; touches = ts })
  run_done k g m h ts t =
      all_over ∙ rw (k, g, t) (ap (λ (l : List ℤ). Ok (record { memory = l; touches = ts })) (sym (h shared is.are)))

pub count_filled : (shared : Members) (ds : Items) → count_items (filled_items shared ds) ≡ count_items ds
count_filled shared no_items = refl
count_filled shared (item d ds) = ap (λ (n : ℕ). 1 + n) (count_filled shared ds)

-- runs that share nothing are themselves
module _ (p : Syntax) (v : Version) where
  run_alone : (n : ℕ) (d : Data) → run_of p v n (filled_run no_members d) ≡ run_of p v n d
  run_alone n (table ms) = run_filled p v no_members refl refl n ms
  run_alone n (string x) = refl
  run_alone n (integer x) = refl
  run_alone n (float x) = refl
  run_alone n (boolean x) = refl
  run_alone n (datetime x) = refl
  run_alone n (array x) = refl

  runs_alone : (n : ℕ) (ds : Items) → runs_from p v n (filled_items no_members ds) ≡ runs_from p v n ds
  runs_alone n no_items = refl
  runs_alone n (item d ds) = ap₂ with_first (run_alone n d) (runs_alone (n + 1) ds)

  pub all_alone : (f : Option Data) → runs_of p v (filled_runs no_members f) ≡ runs_of p v f
  all_alone None = refl
  all_alone (Some (array ds)) =
      ap₂ (λ (n : ℕ) (r : Result (List StartValue) StartFault). cond (n == 0) (Err NoRuns) (cond (nat_lt 4096 n) (Err (TooMany n)) r))
      (count_filled no_members ds) (runs_alone 1 ds)
  all_alone (Some (string x)) = refl
  all_alone (Some (integer x)) = refl
  all_alone (Some (float x)) = refl
  all_alone (Some (boolean x)) = refl
  all_alone (Some (datetime x)) = refl
  all_alone (Some (table x)) = refl

  pub shares_none : (values : List ℤ) → values ≡ replicate (variables p.declarations) (pos 0) → IsShared p v no_members values
  shares_none values e = record { names = refl; passes = refl; are = e ∙ sym (zero_memory p.declarations) }

-- what a file shares
module _ (p : Syntax) (ms : Members) (keys : list_keys_pass p ms ≡ true) (good : memory_passes p.declarations (get_member (codes "memory") ms) ≡ true) where
  pub shared_runs : shared_in p ms ≡ runs_of p Two (filled_runs (members_in (get_member (codes "memory") ms)) (get_member (codes "run") ms))
  shared_runs = rw (keys, good)

  names_of : (o : Option Data) → names_pass Two p.declarations o ≡ true → memory_passes p.declarations o ≡ true
      → keys_pass (λ w. is_key Two (slot_of p.declarations w)) (members_in o) ≡ true
  names_of None h g = refl
  names_of (Some (table x)) h g = h
  names_of (Some (string x)) h g = refl
  names_of (Some (integer x)) h g = refl
  names_of (Some (float x)) h g = refl
  names_of (Some (boolean x)) h g = refl
  names_of (Some (datetime x)) h g = refl
  names_of (Some (array x)) h g = refl

  values_in : (o : Option Data) → memory_passes p.declarations o ≡ true → values_pass p.declarations (members_in o) ≡ true
  values_in None g = refl
  values_in (Some (table x)) g = g
  values_in (Some (string x)) g = refl
  values_in (Some (integer x)) g = refl
  values_in (Some (float x)) g = refl
  values_in (Some (boolean x)) g = refl
  values_in (Some (datetime x)) g = refl
  values_in (Some (array x)) g = refl

  pub shares_all : (values : List ℤ) → values ≡ memory_of p.declarations (members_in (get_member (codes "memory") ms))
      → IsShared p Two (members_in (get_member (codes "memory") ms)) values
  shares_all values e =
      let o = get_member (codes "memory") ms in
      record { names = names_of o (and_parts (keys_pass is_list_key ms) (names_pass Two p.declarations o) keys).1 good; passes = values_in o good; are = e }
