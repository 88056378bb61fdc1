-- The values of variables, one after another.
use Rattle.std.proofs.Common.{◌≡◌, ◌∙◌, refl, sym, ap, subst, ℕ, zero, suc, pos, ◌+◌, ◌-◌, ◌<◌, ◌≤◌, List, [], ◌∷◌, ◌++◌, length, drop, get_or}
use Rattle.std.proofs.Common.{replicate, arith}
use Rattle.std.proofs.Common.{drop-cons, add-one, append_assoc, append-nil, drop_of_length-le, Option, None, Some, true, false, le-leb}
use Rattle.std.proofs.Common.{Bool, cond, length-append}
use native.Mathlib.Numerals.{unary_clauses}
use Rattle.std.specs.Prelude.{option_map, option_and_then, nat_le, slice_get}
use Rattle.std.proofs.lemmas.Bool.{leb-true}
use Rattle.std.proofs.lemmas.Bool.Decides.{nat_tests}
use Rattle.std.proofs.lemmas.Option.{none-some, same_Some}
use Rattle.std.proofs.lemmas.List.{drop_all, length-replicate}
use Rattle.toml.specs.Data.{Data, Items, no_items, item, Members, no_members, get_member, string, integer, float, boolean, datetime, array, table}
use Rattle.toml.specs.View.{items_view, view}
use Rattle.toml.specs.declared.value.Value.{Value}
use Rattle.toml.proofs.Views.{items_view-drop}
use Rattle.mit_syntax.specs.Declarations.{Declaration, cells, cells_of, size_in, variables}
use Rattle.mit_syntax.specs.Program.{Syntax}
use Rattle.mit_syntax.proofs.Numbers.{length-cells_of}
use Rattle.start_file.specs.Tables.{count_items}
use Rattle.start_file.proofs.TableLemmas.{count_items_view}
use Rattle.space_file.specs.Files.{values_in}
use Rattle.space_file.specs.Ranges.{Values, zero_only, Adds, list_of, lists_of, elements_of, values_of, memory_of}

-- these values, and then others
abbrev pub after : List Values → Option (List Values) → Option (List Values)
after is = option_map (λ js. is ++ js)

pub after_none : (o : Option (List Values)) → o ≡ after [] o
after_none None = refl
after_none (Some js) = refl

first_after : (i : Values) (o : Option (List Values)) (is : List Values) → after is (option_map (λ js. i ∷ js) o) ≡ after (is ++ i ∷ []) o
first_after i None is = refl
first_after i (Some js) is = ap (λ (l : List Values). Some l) (sym (append_assoc is (i ∷ []) js))

both_after : (new : List Values) (o : Option (List Values)) (is : List Values) → after is (after new o) ≡ after (is ++ new) o
both_after new None is = refl
both_after new (Some js) is = ap (λ (l : List Values). Some l) (sym (append_assoc is new js))

-- a list grows by the values of the first items
pub record Filling (old now : List Values) (vs : List Value) (k : ℕ) : Type 0 where
  pub done : List Values
  pub put : now ≡ old ++ done
  pub rest : lists_of (items_view vs) ≡ after done (lists_of (items_view (drop k vs)))

pub none_filled : (old : List Values) (vs : List Value) → Filling old old vs 0
none_filled old vs = record { done = []; put = sym (append-nil old); rest = after_none (lists_of (items_view vs)) }

module _ (old now : List Values) (vs : List Value) (k : ℕ) (h : Filling old now vs k) where
  turn : (d : Value) (r : Option Values) → k < length vs → r ≡ list_of (view (get_or vs k d))
      → lists_of (items_view vs)
      ≡ after h.done (option_and_then (λ i. option_map (λ js. i ∷ js) (lists_of (items_view (drop (k + 1) vs)))) r)
  turn d r lt is =
      h.rest ∙ ap (λ (x : Items). after h.done (lists_of x)) (items_view-drop vs k d lt)
      ∙ ap (λ (o : Option Values). after h.done (option_and_then (λ i. option_map (λ js. i ∷ js) (lists_of (items_view (drop (k + 1) vs)))) o)) (sym is)

  pub one_filled : (d : Value) (i : Values) (more : List Values) → k < length vs → Some i ≡ list_of (view (get_or vs k d)) → more ≡ now ++ i ∷ []
      → Filling old more vs (k + 1)
  one_filled d i more lt is e = record {
    done = h.done ++ i ∷ [];
    put = e ∙ ap (λ l. l ++ i ∷ []) h.put ∙ append_assoc old h.done (i ∷ []);
    rest = turn d (Some i) lt is ∙ first_after i (lists_of (items_view (drop (k + 1) vs))) h.done;
  }

  pub none_fits : (d : Value) → k < length vs → None ≡ list_of (view (get_or vs k d)) → lists_of (items_view vs) ≡ None
  none_fits d lt is = turn d None lt is

  pub one_put : (d : Value) (more : List Values) → k < length vs → Adds now more (values_of None (Some (view (get_or vs k d)))) → Filling old more vs (k + 1)
  one_put d more lt a = by (list_of (view (get_or vs k d))) refl a
    where
      by : (r : Option Values) → list_of (view (get_or vs k d)) ≡ r → Adds now more (option_map (λ i. i ∷ []) r) → Filling old more vs (k + 1)
      by None e b = absurd b
      by (Some i) e b = one_filled d i more lt (sym e) b

  pub none_put : (d : Value) → k < length vs → values_of None (Some (view (get_or vs k d))) ≡ None → lists_of (items_view vs) ≡ None
  none_put d lt a = by (list_of (view (get_or vs k d))) refl a
    where
      by : (r : Option Values) → list_of (view (get_or vs k d)) ≡ r → option_map (λ i. i ∷ []) r ≡ None → lists_of (items_view vs) ≡ None
      by None e b = none_fits d lt (sym e)
      by (Some i) e b = absurd cc

  pub all_filled : length vs ≤ k → Adds old now (lists_of (items_view vs))
  all_filled le =
      let all : lists_of (items_view vs) ≡ Some h.done =
      h.rest ∙ ap (λ (l : List Value). after h.done (lists_of (items_view l))) (drop_all k vs le)
      ∙ ap (λ (l : List Values). Some l) (append-nil h.done) in
      subst (Adds old now) (sym all) h.put

-- what is put is the one thing that is added
adds_is : (old now : List Values) (o : Option (List Values)) → Adds old now o → (is : List Values) × (o ≡ Some is) × (now ≡ old ++ is)
adds_is old now None h = absurd h
adds_is old now (Some is) h = (is, refl, h)

-- the elements of an array that is not too long
module _ (n : ℕ) (vs : List Value) where
  pub few_elements : length vs ≤ n
      → elements_of n (items_view vs) ≡ option_map (λ is. is ++ replicate (n - length vs) zero_only) (lists_of (items_view vs))
  few_elements le =
      let c = count_items_view vs in
      let t : nat_le (count_items (items_view vs)) n ≡ true = le-leb (count_items (items_view vs)) n (omega (arith, c, le)) in
      ap (λ b. cond b (option_map (λ is. is ++ replicate (n - count_items (items_view vs)) zero_only) (lists_of (items_view vs))) None) t
      ∙ ap (λ k. option_map (λ is. is ++ replicate (n - k) zero_only) (lists_of (items_view vs))) c

  pub many_elements : n < length vs → elements_of n (items_view vs) ≡ None
  many_elements lt =
      let c = count_items_view vs in
      let t : nat_le (count_items (items_view vs)) n ≡ false = grind (arith, nat_tests, c, lt) in
      ap (λ b. cond b (option_map (λ is. is ++ replicate (n - count_items (items_view vs)) zero_only) (lists_of (items_view vs))) None) t

  pub elements_put : (old mid now : List Values) → length vs ≤ n → Adds old mid (lists_of (items_view vs))
      → now ≡ mid ++ replicate (n - length vs) zero_only → Adds old now (elements_of n (items_view vs))
  elements_put old mid now le a e =
      let b = adds_is old mid (lists_of (items_view vs)) a in
      let zeros = replicate (n - length vs) zero_only in
      let is : elements_of n (items_view vs) ≡ Some (b.0 ++ zeros) =
      few_elements le ∙ ap (option_map (λ is. is ++ zeros)) b.1 in
      subst (Adds old now) (sym is) (e ∙ ap (λ l. l ++ zeros) b.2 ∙ append_assoc old b.0 zeros)

  pub elements_none : length vs ≤ n → lists_of (items_view vs) ≡ None → elements_of n (items_view vs) ≡ None
  elements_none le e = few_elements le ∙ ap (option_map (λ is. is ++ replicate (n - length vs) zero_only)) e

-- the values of the first declarations
pub record Declared (ds : List Declaration) (ms : Members) (k : ℕ) (now : List Values) : Type 0 where
  pub rest : memory_of ds ms ≡ after now (memory_of (drop k ds) ms)

pub none_declared : (ds : List Declaration) (ms : Members) → Declared ds ms 0 []
none_declared ds ms = record { rest = after_none (memory_of ds ms) }

module _ (ds : List Declaration) (ms : Members) (k : ℕ) (now : List Values) (h : Declared ds ms k now) where
  at_place : (xs : List Declaration) (j : ℕ) (d : Declaration) → slice_get xs j ≡ Some d → drop j xs ≡ d ∷ drop (j + 1) xs
  at_place [] zero d e = absurd cc
  at_place [] (suc j) d e = absurd cc
  at_place (x ∷ xs) zero d e = let same : x ≡ d = cc in ap (λ z. z ∷ xs) same
  at_place (x ∷ xs) (suc j) d e = simp unary_clauses (subst (λ n. drop j xs ≡ d ∷ drop n xs) (add-one j) (at_place xs j d e))

  step : (d : Declaration) → slice_get ds k ≡ Some d
      → memory_of ds ms
      ≡ after now (option_and_then (λ is. option_map (λ js. is ++ js) (memory_of (drop (k + 1) ds) ms)) (values_of d.1.length (get_member d.0 ms)))
  step d e = h.rest ∙ ap (λ l. after now (memory_of l ms)) (at_place ds k d e)

  pub one_declared : (d : Declaration) (more : List Values) → slice_get ds k ≡ Some d → Adds now more (values_of d.1.length (get_member d.0 ms))
      → Declared ds ms (k + 1) more
  one_declared d more e a =
      let b = adds_is now more (values_of d.1.length (get_member d.0 ms)) a in
      let rest = memory_of (drop (k + 1) ds) ms in
      record {
        rest = step d e ∙ ap (λ o. after now (option_and_then (λ is. option_map (λ js. is ++ js) rest) o)) b.1 ∙ both_after b.0 rest now
            ∙ ap (λ l. after l rest) (sym b.2);
      }

  pub none_declares : (d : Declaration) → slice_get ds k ≡ Some d → values_of d.1.length (get_member d.0 ms) ≡ None → memory_of ds ms ≡ None
  none_declares d e n =
      step d e ∙ ap (λ o. after now (option_and_then (λ is. option_map (λ js. is ++ js) (memory_of (drop (k + 1) ds) ms)) o)) n

  pub all_declared : length ds ≤ k → memory_of ds ms ≡ Some now
  all_declared le = h.rest ∙ ap (λ l. after now (memory_of l ms)) (drop_all k ds le) ∙ ap (λ (l : List Values). Some l) (append-nil now)

-- the values of declarations, one after another
pub ruleset declares = (none_declared, one_declared, none_declares, all_declared)

-- ---- there are as many values as variables

length_lists : (ds : Items) (is : List Values) → lists_of ds ≡ Some is → length is ≡ count_items ds
length_lists no_items is e = ap length (sym (same_Some [] is e))
length_lists (item d ds) is e = by (list_of d) (lists_of ds) refl e (length_lists ds)
  where
    by : (r : Option Values) (q : Option (List Values)) → lists_of ds ≡ q
        → option_and_then (λ i. option_map (λ js. i ∷ js) q) r ≡ Some is
        → ((js : List Values) → lists_of ds ≡ Some js → length js ≡ count_items ds) → length is ≡ 1 + count_items ds
    by None q g k more = absurd (none-some is k)
    by (Some i) None g k more = absurd (none-some is k)
    by (Some i) (Some js) g k more =
        let l = more js g in
        let here : length (i ∷ js) ≡ 1 + count_items ds = omega (arith, l) in
        subst (λ z. length z ≡ 1 + count_items ds) (same_Some (i ∷ js) is k) here

length_elements : (n : ℕ) (ds : Items) (is : List Values) → elements_of n ds ≡ Some is → length is ≡ n
length_elements n ds is e = by (nat_le (count_items ds) n) (lists_of ds) refl refl e
  where
    by : (b : Bool) (q : Option (List Values)) → nat_le (count_items ds) n ≡ b → lists_of ds ≡ q
        → cond b (option_map (λ js. js ++ replicate (n - count_items ds) zero_only) q) None ≡ Some is → length is ≡ n
    by false q t g k = absurd (none-some is k)
    by true None t g k = absurd (none-some is k)
    by true (Some js) t g k =
        let zeros = replicate (n - count_items ds) zero_only in
        let l = length_lists ds js g in
        let a = length-append js zeros in
        let z = length-replicate (n - count_items ds) zero_only in
        let le = leb-true (count_items ds) n t in
        let here : length (js ++ zeros) ≡ n = omega (arith, l, a, z, le) in
        subst (λ y. length y ≡ n) (same_Some (js ++ zeros) is k) here

length_values : (l : Option ℕ) (d : Option Data) (is : List Values) → values_of l d ≡ Some is → length is ≡ size_in l
length_values None None is e = ap length (sym (same_Some (zero_only ∷ []) is e))
length_values None (Some d) is e = by (list_of d) e
  where
    by : (r : Option Values) → option_map (λ i. i ∷ []) r ≡ Some is → length is ≡ 1
    by None k = absurd (none-some is k)
    by (Some i) k = ap length (sym (same_Some (i ∷ []) is k))
length_values (Some n) None is e = ap length (sym (same_Some (replicate n zero_only) is e)) ∙ length-replicate n zero_only
length_values (Some n) (Some (array ds)) is e = length_elements n ds is e
length_values (Some n) (Some (string z)) is e = absurd (none-some is e)
length_values (Some n) (Some (integer z)) is e = absurd (none-some is e)
length_values (Some n) (Some (float z)) is e = absurd (none-some is e)
length_values (Some n) (Some (boolean z)) is e = absurd (none-some is e)
length_values (Some n) (Some (datetime z)) is e = absurd (none-some is e)
length_values (Some n) (Some (table z)) is e = absurd (none-some is e)

pub length_memory : (ds : List Declaration) (ms : Members) (is : List Values) → memory_of ds ms ≡ Some is → length is ≡ variables ds
length_memory [] ms is e = ap length (sym (same_Some [] is e))
length_memory (d ∷ ds) ms is e = by (length_memory ds ms) (values_of d.1.length (get_member d.0 ms)) (memory_of ds ms) refl refl e
  where
    by : ((ks : List Values) → memory_of ds ms ≡ Some ks → length ks ≡ variables ds) → (r q : Option (List Values))
        → values_of d.1.length (get_member d.0 ms) ≡ r → memory_of ds ms ≡ q
        → option_and_then (λ js. option_map (λ ks. js ++ ks) q) r ≡ Some is → length is ≡ variables (d ∷ ds)
    by more None q f g k = absurd (none-some is k)
    by more (Some js) None f g k = absurd (none-some is k)
    by more (Some js) (Some ks) f g k =
        let one = length_values d.1.length (get_member d.0 ms) js f in
        let rest = more ks g in
        let a = length-append js ks in
        let b = length-append (cells_of d.0 d.1.label d.1.length) (cells ds) in
        let c = length-cells_of d.0 d.1.label d.1.length in
        let here : length (js ++ ks) ≡ variables (d ∷ ds) = omega (arith, one, rest, a, b, c) in
        subst (λ y. length y ≡ variables (d ∷ ds)) (same_Some (js ++ ks) is k) here

-- a space has values for each variable
pub length_values_in : (p : Syntax) (d : Option Data) (is : List Values) → values_in p d ≡ Some is → length is ≡ variables p.declarations
length_values_in p None is e = length_memory p.declarations no_members is e
length_values_in p (Some (table ms)) is e = length_memory p.declarations ms is e
length_values_in p (Some (string z)) is e = absurd (none-some is e)
length_values_in p (Some (integer z)) is e = absurd (none-some is e)
length_values_in p (Some (float z)) is e = absurd (none-some is e)
length_values_in p (Some (boolean z)) is e = absurd (none-some is e)
length_values_in p (Some (datetime z)) is e = absurd (none-some is e)
length_values_in p (Some (array z)) is e = absurd (none-some is e)
