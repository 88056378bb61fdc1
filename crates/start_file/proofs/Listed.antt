-- The touches and the runs, one more at a time.
use Rattle.std.proofs.Common.{◌≡◌, ◌∙◌, refl, sym, ap, ℕ, ◌+◌, ◌<◌, ◌≤◌, List, [], ◌∷◌, ◌++◌, length, drop, get_or, Option, None, Some, Result, Ok, Err}
use Rattle.std.proofs.Common.{codes, drop_of_length-le, append_assoc, append-nil, arith}
use Rattle.std.specs.Prelude.{true, false, ◌==◌, nat_lt, option_map, option_and_then}
use Rattle.std.proofs.lemmas.Bool.Decides.{nat_tests}
use Rattle.toml.specs.Data.{Items, Members, get_member}
use Rattle.toml.specs.View.{items_view, view}
use Rattle.toml.specs.declared.value.Value.{Value}
use Rattle.toml.proofs.Views.{items_view-drop}
use Rattle.env_contract.specs.declared.place.Touch.{Touch}
use Rattle.label_lattice.specs.Order.{Order}
use Rattle.mit_syntax.specs.Program.{Syntax}
use Rattle.start_file.specs.declared.fault.StartFault.{StartFault}
use Rattle.start_file.specs.declared.version.Version.{Version}
use Rattle.start_file.specs.Touches.{touch_of, touches_of}
use Rattle.start_file.specs.Tables.{count_items, keys_pass}
use Rattle.start_file.specs.Starts.{StartValue, is_top_key, run_of, with_first, runs_from, counted_runs, runs_of, versioned, starts_in}
use Rattle.start_file.specs.Versions.{version_of}
use Rattle.start_file.specs.declared.fault.StartFault.TheVariants.{NoRuns, TooMany, UnknownKey}
use Rattle.start_file.specs.Shared.{filled_run, filled_items}
use Rattle.start_file.proofs.FilledRuns.{count_filled}
use Rattle.start_file.proofs.TableLemmas.{count_items_view}

-- these touches, and then the rest
abbrev pub after : List Touch → Option (List Touch) → Option (List Touch)
after ts = option_map (λ us. ts ++ us)

pub after_none : (o : Option (List Touch)) → o ≡ after [] o
after_none None = refl
after_none (Some us) = refl

touch_first : (t : Touch) (o : Option (List Touch)) (ts : List Touch) → after ts (option_map (λ us. t ∷ us) o) ≡ after (ts ++ t ∷ []) o
touch_first t None ts = refl
touch_first t (Some us) ts = ap (λ (l : List Touch). Some l) (sym (append_assoc ts (t ∷ []) us))

module _ (v : Version) (o : Order) (all : Option (List Touch)) (vs : List Value) (i : ℕ) (ts : List Touch)
    (so_far : all ≡ after ts (touches_of v o (items_view (drop i vs)))) where
  -- a touch more
  pub touch_more : (d : Value) (t : Touch) → i < length vs → Some t ≡ touch_of v o (view (get_or vs i d))
      → all ≡ after (ts ++ t ∷ []) (touches_of v o (items_view (drop (i + 1) vs)))
  touch_more d t lt is =
      let rest = touches_of v o (items_view (drop (i + 1) vs)) in
      so_far ∙ ap (λ (x : Items). after ts (touches_of v o x)) (items_view-drop vs i d lt)
      ∙ ap (λ (r : Option Touch). after ts (option_and_then (λ y. option_map (λ ys. y ∷ ys) rest) r)) (sym is)
      ∙ touch_first t rest ts

  -- what is no touch
  pub touch_refused : (d : Value) → i < length vs → None ≡ touch_of v o (view (get_or vs i d)) → all ≡ None
  touch_refused d lt is =
      let rest = touches_of v o (items_view (drop (i + 1) vs)) in
      so_far ∙ ap (λ (x : Items). after ts (touches_of v o x)) (items_view-drop vs i d lt)
      ∙ ap (λ (r : Option Touch). after ts (option_and_then (λ y. option_map (λ ys. y ∷ ys) rest) r)) (sym is)

  -- no touch is left
  pub touches_over : length vs ≤ i → all ≡ Some ts
  touches_over le =
      so_far ∙ ap (λ (l : List Value). after ts (touches_of v o (items_view l))) (drop_of_length-le vs {i = i} le)
      ∙ ap (λ (l : List Touch). Some l) (append-nil ts)

-- these starts, and then the rest
abbrev pub onto : List StartValue → Result (List StartValue) StartFault → Result (List StartValue) StartFault
onto ss (Ok rest) = Ok (ss ++ rest)
onto ss (Err e) = Err e

pub onto_none : (r : Result (List StartValue) StartFault) → r ≡ onto [] r
onto_none (Ok ss) = refl
onto_none (Err e) = refl

start_first : (s : StartValue) (r : Result (List StartValue) StartFault) (ss : List StartValue) → onto ss (with_first (Ok s) r) ≡ onto (ss ++ s ∷ []) r
start_first s (Ok rest) ss = ap (λ (l : List StartValue). Ok l) (sym (append_assoc ss (s ∷ []) rest))
start_first s (Err e) ss = refl

module _ (p : Syntax) (v : Version) (shared : Members) (all : Result (List StartValue) StartFault) (vs : List Value) (i : ℕ) (ss : List StartValue)
    (so_far : all ≡ onto ss (runs_from p v (i + 1) (filled_items shared (items_view (drop i vs))))) where
  -- a run more
  pub run_more : (d : Value) (s : StartValue) → i < length vs → run_of p v (i + 1) (filled_run shared (view (get_or vs i d))) ≡ Ok s
      → all ≡ onto (ss ++ s ∷ []) (runs_from p v (i + 1 + 1) (filled_items shared (items_view (drop (i + 1) vs))))
  run_more d s lt is =
      let rest = runs_from p v (i + 1 + 1) (filled_items shared (items_view (drop (i + 1) vs))) in
      so_far ∙ ap (λ (x : Items). onto ss (runs_from p v (i + 1) (filled_items shared x))) (items_view-drop vs i d lt)
      ∙ ap (λ (r : Result StartValue StartFault). onto ss (with_first r rest)) is
      ∙ start_first s rest ss

  -- a run that is refused
  pub run_refused : (d : Value) (e : StartFault) → i < length vs → run_of p v (i + 1) (filled_run shared (view (get_or vs i d))) ≡ Err e → all ≡ Err e
  run_refused d e lt is =
      let rest = runs_from p v (i + 1 + 1) (filled_items shared (items_view (drop (i + 1) vs))) in
      so_far ∙ ap (λ (x : Items). onto ss (runs_from p v (i + 1) (filled_items shared x))) (items_view-drop vs i d lt)
      ∙ ap (λ (r : Result StartValue StartFault). onto ss (with_first r rest)) is

  -- no run is left
  pub runs_over : length vs ≤ i → all ≡ Ok ss
  runs_over le =
      so_far ∙ ap (λ (l : List Value). onto ss (runs_from p v (i + 1) (filled_items shared (items_view l)))) (drop_of_length-le vs {i = i} le)
      ∙ ap (λ (l : List StartValue). Ok l) (append-nil ss)

module _ (p : Syntax) (v : Version) (shared : Members) (vs : List Value) where
  abbrev all_filled : Items
  all_filled = filled_items shared (items_view vs)

  counted : count_items all_filled ≡ length vs
  counted = count_filled shared (items_view vs) ∙ count_items_view vs

  -- no run
  pub counted_none : length vs ≡ 0 → counted_runs p v all_filled ≡ Err NoRuns
  counted_none e =
      let n = counted in
      let none : (count_items all_filled == 0) ≡ true = grind (arith, nat_tests, n, e) in
      rw none

  -- a number of runs that may be
  pub counted_some : 0 < length vs → length vs ≤ 4096 → counted_runs p v all_filled ≡ runs_from p v 1 all_filled
  counted_some lt le =
      let n = counted in
      let some : (count_items all_filled == 0) ≡ false = grind (arith, nat_tests, n) in
      let few : nat_lt 4096 (count_items all_filled) ≡ false = grind (arith, nat_tests, n) in
      rw (some, few)

  -- and one that is too large
  pub counted_many : 4096 < length vs → counted_runs p v all_filled ≡ Err (TooMany (length vs))
  counted_many lt =
      let n = counted in
      let some : (count_items all_filled == 0) ≡ false = grind (arith, nat_tests, n) in
      let many : nat_lt 4096 (count_items all_filled) ≡ true = grind (arith, nat_tests, n) in
      rw (some, many) (ap (λ k. Err (TooMany k)) n)

-- a document with a version
module _ (p : Syntax) (ms : Members) (v : Version) (version : Some v ≡ version_of (get_member (codes "version") ms)) where
  -- and only known keys
  pub known_top : keys_pass is_top_key ms ≡ true → starts_in p (Some ms) ≡ runs_of p v (get_member (codes "run") ms)
  known_top h = ap (λ o. versioned p o ms) (sym version) ∙ rw h

  -- and an unknown key
  pub unknown_top : keys_pass is_top_key ms ≡ false → starts_in p (Some ms) ≡ Err (UnknownKey 0)
  unknown_top h = ap (λ o. versioned p o ms) (sym version) ∙ rw h
