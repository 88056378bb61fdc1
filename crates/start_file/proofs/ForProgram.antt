-- The starts of a file have a value for each variable, and touches of labels.
use Rattle.std.proofs.Common.{◌≡◌, refl, subst, ℕ, ℤ, ◌+◌, ◌<◌, List, [], ◌∷◌, Bool, true, false, cond, length, Option, None, Some, Result, Ok, Err, codes}
use Rattle.std.proofs.Common.{arith}
use Rattle.std.specs.Prelude.{All, ◌==◌, nat_lt, option_map, option_and_then, position}
use Rattle.std.specs.Str.{bytes_eq}
use Rattle.std.proofs.lemmas.List.Elements.{All-nil, All-cons}
use Rattle.std.proofs.lemmas.List.Quantifiers.{position-Some}
use Rattle.std.proofs.lemmas.Option.{none-some, same_Some}
use Rattle.toml.specs.Data.{Data, Items, no_items, item, Members, get_member, string, integer, float, boolean, datetime, array, table}
use Rattle.env_contract.specs.declared.place.Place.{Place}
use Rattle.env_contract.specs.declared.place.Touch.{Touch}
use Rattle.label_lattice.specs.declared.label.Label.{Label}
use Rattle.label_lattice.specs.Order.{Order, IsOrder}
use Rattle.mit_syntax.specs.Declarations.{variables}
use Rattle.mit_syntax.specs.Program.{Syntax}
use Rattle.start_file.specs.declared.fault.StartFault.{StartFault}
use Rattle.start_file.specs.declared.fault.StartFault.TheVariants.{UnknownKey, NoRuns, TooMany, NotNumber, BadTouch, Version as BadVersion}
use Rattle.start_file.specs.declared.version.Version.{Version}
use Rattle.start_file.specs.Tables.{keys_pass, members_in, count_items}
use Rattle.start_file.specs.Versions.{version_of}
use Rattle.start_file.specs.Values.{memory_passes, memory_of}
use Rattle.start_file.specs.Touches.{is_touch_key, place_of, label_of, address_of, touch_from, touch_of, touches_of, touches_in}
use Rattle.start_file.specs.Starts.{StartValue, IsFor, is_top_key, run_keys_pass, with_touches, run_in, run_of, with_first, runs_from, counted_runs, runs_of}
use Rattle.start_file.specs.Starts.{versioned, starts_in}
use Rattle.start_file.specs.declared.version.Version.TheVariants.{Two}
use Rattle.start_file.specs.Shared.{filled_runs, list_keys_pass, shared_in, has_shared, list_in}
use Rattle.start_file.proofs.Written.{length-memory_of}

module _ (o : Order) (h : IsOrder o) where
  abbrev pub Below : Touch → Type 0
  Below t = t.label.number < o.size

  label_below : (f : Option Data) (l : Label) → label_of o f ≡ Some l → l.number < o.size
  label_below None l e = absurd (none-some l e)
  label_below (Some (string w)) l e = by (position (λ n. bytes_eq n w) o.names) refl e
    where
      by : (r : Option ℕ) → position (λ n. bytes_eq n w) o.names ≡ r → option_map (λ k. record { number = k }) r ≡ Some l → l.number < o.size
      by None g k = absurd (none-some l k)
      by (Some n) g k =
          let p = position-Some (λ n. bytes_eq n w) o.names n [] g in
          let size = h.named in
          let within : n < o.size = omega (arith, size, p.0) in
          subst (λ (z : Label). z.number < o.size) (same_Some (record { number = n }) l k) within
  label_below (Some (integer z)) l e = absurd (none-some l e)
  label_below (Some (float z)) l e = absurd (none-some l e)
  label_below (Some (boolean z)) l e = absurd (none-some l e)
  label_below (Some (datetime z)) l e = absurd (none-some l e)
  label_below (Some (array z)) l e = absurd (none-some l e)
  label_below (Some (table z)) l e = absurd (none-some l e)

  from_parts : (b : Bool) (p : Option Place) (f : Option Label) (a : Option ℕ) (t : Touch) → ((l : Label) → f ≡ Some l → l.number < o.size)
      → cond b (touch_from p f a) None ≡ Some t → Below t
  from_parts false p f a t k e = absurd (none-some t e)
  from_parts true None None None t k e = absurd (none-some t e)
  from_parts true None None (Some a) t k e = absurd (none-some t e)
  from_parts true None (Some l) None t k e = absurd (none-some t e)
  from_parts true None (Some l) (Some a) t k e = absurd (none-some t e)
  from_parts true (Some p) None None t k e = absurd (none-some t e)
  from_parts true (Some p) None (Some a) t k e = absurd (none-some t e)
  from_parts true (Some p) (Some l) None t k e = absurd (none-some t e)
  from_parts true (Some p) (Some l) (Some a) t k e = subst Below (same_Some (record { place = p; label = l; address = a }) t e) (k l refl)

  touch_below : (v : Version) (d : Data) (t : Touch) → touch_of v o d ≡ Some t → Below t
  touch_below v (table ms) t e =
      from_parts (keys_pass is_touch_key ms) (place_of v (get_member (codes "place") ms)) (label_of o (get_member (codes "label") ms))
      (address_of (get_member (codes "address") ms)) t
      (label_below (get_member (codes "label") ms)) e
  touch_below v (string z) t e = absurd (none-some t e)
  touch_below v (integer z) t e = absurd (none-some t e)
  touch_below v (float z) t e = absurd (none-some t e)
  touch_below v (boolean z) t e = absurd (none-some t e)
  touch_below v (datetime z) t e = absurd (none-some t e)
  touch_below v (array z) t e = absurd (none-some t e)

  touches_below : (v : Version) (ds : Items) (ts : List Touch) → touches_of v o ds ≡ Some ts → All Below ts
  touches_below v no_items ts e = subst (All Below) (same_Some [] ts e) (All-nil Below)
  touches_below v (item d ds) ts e = by (touches_below v ds) (touch_of v o d) (touches_of v o ds) refl refl e
    where
      by : ((us : List Touch) → touches_of v o ds ≡ Some us → All Below us) → (r : Option Touch) (q : Option (List Touch))
          → touch_of v o d ≡ r → touches_of v o ds ≡ q
          → option_and_then (λ t. option_map (λ us. t ∷ us) q) r ≡ Some ts → All Below ts
      by more None q f g k = absurd (none-some ts k)
      by more (Some t) None f g k = absurd (none-some ts k)
      by more (Some t) (Some us) f g k = subst (All Below) (same_Some (t ∷ us) ts k) (All-cons Below t us (touch_below v d t f) (more us g))

  pub all_below : (v : Version) (f : Option Data) (ts : List Touch) → touches_in v o f ≡ Some ts → All Below ts
  all_below v None ts e = subst (All Below) (same_Some [] ts e) (All-nil Below)
  all_below v (Some (array ds)) ts e = touches_below v ds ts e
  all_below v (Some (string z)) ts e = absurd (none-some ts e)
  all_below v (Some (integer z)) ts e = absurd (none-some ts e)
  all_below v (Some (float z)) ts e = absurd (none-some ts e)
  all_below v (Some (boolean z)) ts e = absurd (none-some ts e)
  all_below v (Some (datetime z)) ts e = absurd (none-some ts e)
  all_below v (Some (table z)) ts e = absurd (none-some ts e)

-- the value, where a result is one
same_Ok : {T : Type 0} (x y : T) → ◌≡◌ {A = Result T StartFault} (Ok x) (Ok y) → x ≡ y
same_Ok x y e = cc

err_ok : {T : Type 0} (f : StartFault) (y : T) → Err f ≡ Ok y → ⊥
err_ok f y e = cc

after_then : {T : Type 0} (b : Bool) (r : Result T StartFault) (f : StartFault) (y : T) → cond b r (Err f) ≡ Ok y → r ≡ Ok y
after_then true r f y e = e
after_then false r f y e = absurd (err_ok f y e)

after_else : {T : Type 0} (b : Bool) (r : Result T StartFault) (f : StartFault) (y : T) → cond b (Err f) r ≡ Ok y → r ≡ Ok y
after_else true r f y e = absurd (err_ok f y e)
after_else false r f y e = e

module _ (p : Syntax) (h : IsOrder p.order) where
  run_for : (v : Version) (n : ℕ) (ms : Members) (s : StartValue) → run_in p v n ms ≡ Ok s → IsFor p s
  run_for v n ms s e =
      let memory = get_member (codes "memory") ms in
      let m = memory_of p.declarations (members_in memory) in
      let f = touches_in v p.order (get_member (codes "touch") ms) in
      let known = after_then (run_keys_pass p v ms) (cond (memory_passes p.declarations memory) (with_touches n m f) (Err (NotNumber n))) (UnknownKey n) s e in
      by f refl m (length-memory_of p.declarations (members_in memory))
      (after_then (memory_passes p.declarations memory) (with_touches n m f) (NotNumber n) s known)
    where
      by : (f : Option (List Touch)) → touches_in v p.order (get_member (codes "touch") ms) ≡ f → (m : List ℤ) → length m ≡ variables p.declarations
          → with_touches n m f ≡ Ok s → IsFor p s
      by None g m l k = absurd (err_ok (BadTouch n) s k)
      by (Some ts) g m l k =
          subst (IsFor p) (same_Ok (record { memory = m; touches = ts }) s k)
          (record { memory = l; touches = all_below p.order h v (get_member (codes "touch") ms) ts g })

  data_for : (v : Version) (n : ℕ) (d : Data) (s : StartValue) → run_of p v n d ≡ Ok s → IsFor p s
  data_for v n (table ms) s e = run_for v n ms s e
  data_for v n (string z) s e = absurd (err_ok (UnknownKey n) s e)
  data_for v n (integer z) s e = absurd (err_ok (UnknownKey n) s e)
  data_for v n (float z) s e = absurd (err_ok (UnknownKey n) s e)
  data_for v n (boolean z) s e = absurd (err_ok (UnknownKey n) s e)
  data_for v n (datetime z) s e = absurd (err_ok (UnknownKey n) s e)
  data_for v n (array z) s e = absurd (err_ok (UnknownKey n) s e)

  runs_for : (v : Version) (n : ℕ) (ds : Items) (ss : List StartValue) → runs_from p v n ds ≡ Ok ss → All (IsFor p) ss
  runs_for v n no_items ss e = subst (All (IsFor p)) (same_Ok [] ss e) (All-nil (IsFor p))
  runs_for v n (item d ds) ss e = by (runs_for v (n + 1) ds) (run_of p v n d) (runs_from p v (n + 1) ds) refl refl e
    where
      by : ((us : List StartValue) → runs_from p v (n + 1) ds ≡ Ok us → All (IsFor p) us)
          → (r : Result StartValue StartFault) (q : Result (List StartValue) StartFault)
          → run_of p v n d ≡ r → runs_from p v (n + 1) ds ≡ q → with_first r q ≡ Ok ss → All (IsFor p) ss
      by more (Err f) q g k i = absurd (err_ok f ss i)
      by more (Ok s) (Err f) g k i = absurd (err_ok f ss i)
      by more (Ok s) (Ok us) g k i = subst (All (IsFor p)) (same_Ok (s ∷ us) ss i) (All-cons (IsFor p) s us (data_for v n d s g) (more us k))

  counted_for : (v : Version) (ds : Items) (ss : List StartValue) → counted_runs p v ds ≡ Ok ss → All (IsFor p) ss
  counted_for v ds ss e =
      let all = runs_from p v 1 ds in
      let n = count_items ds in
      let some = after_else (n == 0) (cond (nat_lt 4096 n) (Err (TooMany n)) all) NoRuns ss e in
      runs_for v 1 ds ss (after_else (nat_lt 4096 n) all (TooMany n) ss some)

  array_for : (v : Version) (f : Option Data) (ss : List StartValue) → runs_of p v f ≡ Ok ss → All (IsFor p) ss
  array_for v None ss e = absurd (err_ok NoRuns ss e)
  array_for v (Some (array ds)) ss e = counted_for v ds ss e
  array_for v (Some (string z)) ss e = absurd (err_ok NoRuns ss e)
  array_for v (Some (integer z)) ss e = absurd (err_ok NoRuns ss e)
  array_for v (Some (float z)) ss e = absurd (err_ok NoRuns ss e)
  array_for v (Some (boolean z)) ss e = absurd (err_ok NoRuns ss e)
  array_for v (Some (datetime z)) ss e = absurd (err_ok NoRuns ss e)
  array_for v (Some (table z)) ss e = absurd (err_ok NoRuns ss e)

  versioned_for : (v : Option Version) (ms : Members) (ss : List StartValue) → versioned p v ms ≡ Ok ss → All (IsFor p) ss
  versioned_for None ms ss e = absurd (err_ok BadVersion ss e)
  versioned_for (Some v) ms ss e =
      array_for v (get_member (codes "run") ms) ss (after_then (keys_pass is_top_key ms) (runs_of p v (get_member (codes "run") ms)) (UnknownKey 0) ss e)

  -- what a document gives
  pub starts_for : (ms : Members) (ss : List StartValue) → starts_in p (Some ms) ≡ Ok ss → All (IsFor p) ss
  starts_for ms ss e = versioned_for (version_of (get_member (codes "version") ms)) ms ss e

  shared_for : (ms : Members) (ss : List StartValue) → shared_in p ms ≡ Ok ss → All (IsFor p) ss
  shared_for ms ss e =
      let shared = get_member (codes "memory") ms in
      let all = runs_of p Two (filled_runs (members_in shared) (get_member (codes "run") ms)) in
      let known = after_then (list_keys_pass p ms) (cond (memory_passes p.declarations shared) all (Err (NotNumber 0))) (UnknownKey 0) ss e in
      array_for Two (filled_runs (members_in shared) (get_member (codes "run") ms)) ss
      (after_then (memory_passes p.declarations shared) all (NotNumber 0) ss known)

  of_either : (b : Bool) (ms : Members) (ss : List StartValue) → cond b (shared_in p ms) (starts_in p (Some ms)) ≡ Ok ss → All (IsFor p) ss
  of_either true ms ss e = shared_for ms ss e
  of_either false ms ss e = starts_for ms ss e

  -- what a document of any version gives
  pub list_for : (ms : Members) (ss : List StartValue) → list_in p (Some ms) ≡ Ok ss → All (IsFor p) ss
  list_for ms ss e = of_either (has_shared ms) ms ss e
