-- Tables and arrays of a document, walked through up to the first part that is none.
use Rattle.std.proofs.Common.{◌≡◌, ◌∙◌, refl, sym, ap, ℕ, ◌+◌, ◌<◌, ◌≤◌, List, ◌++◌, Bool}
use Rattle.std.proofs.Common.{true, false, ◌&&◌, not, length, get_or, drop, le-leb, Option, None, Some, option_map}
use Rattle.std.proofs.Common.{Vec, Global, codes, decimal, arith}
use Rattle.std.specs.Prelude.{is_none, is_some, if◌then◌else◌, nat_le}
use Rattle.std.proofs.lemmas.Bool.Decides.{nat_tests}
use Rattle.toml.specs.Data.{Data, array, Items, no_items, item, Members, no_members, member, get_member}
use Rattle.toml.specs.View.{items_view, view}
use Rattle.toml.specs.declared.value.Value.{Value, Array}
use Rattle.toml.proofs.Views.{items_view-drop, view-Array}
use Rattle.label_lattice.specs.Order.{Order}
use Rattle.label_lattice.specs.declared.label.Label.{Label}
use Rattle.env_contract.specs.declared.place.Place.{Place}
use Rattle.start_file.specs.declared.version.Version.{Version}
use Rattle.start_file.specs.Tables.{keys_pass, count_items}
use Rattle.start_file.specs.Touches.{is_touch_key, touch_from, touch_in, touch_of, place_of, label_of, address_of}
use Rattle.start_file.specs.Values.{is_integer}
use Rattle.start_file.proofs.TableLemmas.{count_items_view}
use Rattle.start_faults.specs.declared.keys.Keys.TheVariants.{Touch}
use Rattle.start_faults.specs.Found.{array_of, first_unknown, has_key, place_lines, value_text}
use Rattle.start_faults.specs.Touches.{list_lines, touch_lines}
use Rattle.start_faults.specs.Values.{element_lines, element_place, elements_in, number_wanted}

-- ---- arrays

-- what is told of an array
pub array_text : (value : Value) (a : Vec Value Global) (s : List Value) → value ≡ Array a → s ≡ a.items →
    value_text (view value) ≡ array_of ++ decimal (length s)
array_text value a s is same = rw (is, view-Array, count_items_view, same)

-- an array that is not too long, and one that is
pub few_are : (vs : List Value) (n : ℕ) → length vs ≤ n → elements_in n (array (items_view vs)) ≡ Some (items_view vs)
few_are vs n le = rw (count_items_view vs, le-leb (length vs) n le)

pub many_are : (vs : List Value) (n : ℕ) → n < length vs → elements_in n (array (items_view vs)) ≡ None
many_are vs n lt =
    let long : nat_le (length vs) n ≡ false = grind (arith, nat_tests) in
    rw (count_items_view vs, long)

-- ---- keys and touches

none_step : (known : Bool) (k : List ℕ) (rest : Option (List ℕ)) (pass : Bool) → is_none rest ≡ pass
    → is_none (if known then rest else Some k) ≡ (known && pass)
none_step true k rest pass e = e
none_step false k rest pass e = refl

-- no key of a touch is unknown where each is one
pub none_unknown : (ms : Members) → is_none (first_unknown (has_key Touch) ms) ≡ keys_pass is_touch_key ms
none_unknown no_members = refl
none_unknown (member k d ms) =
    none_step (is_touch_key k) k (first_unknown (has_key Touch) ms) (keys_pass is_touch_key ms) (none_unknown ms)

-- what a test for none tells
pub none_told : {A B : Type 0} (f : A → B) (x : Option A) (r : Bool) → is_some x ≡ not r → r ≡ is_none (option_map f x)
none_told f None true e = refl
none_told f None false e = absurd cc
none_told f (Some x) true e = absurd cc
none_told f (Some x) false e = refl

-- three values are a touch where each is there
touch_from_is : (p : Option Place) (l : Option Label) (a : Option ℕ) → is_some (touch_from p l a) ≡ (is_some p && (is_some l && is_some a))
touch_from_is None l a = refl
touch_from_is (Some p) None a = refl
touch_from_is (Some p) (Some l) None = refl
touch_from_is (Some p) (Some l) (Some a) = refl

from_keys : (known : Bool) (p : Option Place) (l : Option Label) (a : Option ℕ)
    → is_some (if known then touch_from p l a else None) ≡ (known && (is_some p && (is_some l && is_some a)))
from_keys true p l a = touch_from_is p l a
from_keys false p l a = refl

-- a table is a touch where its keys and its values are those of one
pub touch_tests : (v : Version) (o : Order) (ms : Members) (keys place label address : Bool) → keys ≡ keys_pass is_touch_key ms
    → place ≡ is_some (place_of v (get_member (codes "place") ms)) → label ≡ is_some (label_of o (get_member (codes "label") ms))
    → address ≡ is_some (address_of (get_member (codes "address") ms)) → is_some (touch_in v o ms) ≡ (keys && (place && (label && address)))
touch_tests v o ms keys place label address e f g h =
    from_keys (keys_pass is_touch_key ms) (place_of v (get_member (codes "place") ms)) (label_of o (get_member (codes "label") ms))
    (address_of (get_member (codes "address") ms)) ∙ rw (e, f, g, h)

-- ---- walks

-- what stands at a place of an array, and behind it
there : (vs : List Value) (i : ℕ) (value : Value) → i < length vs → value ≡ get_or vs i value
    → items_view (drop i vs) ≡ item (view value) (items_view (drop (i + 1) vs))
there vs i value within is = items_view-drop vs i value within ∙ ap (λ (z : Value). item (view z) (items_view (drop (i + 1) vs))) (sym is)

if_true : (b : Bool) (out x y z : List ℕ) → b ≡ true → out ++ (if b then x else y) ≡ z → out ++ x ≡ z
if_true true out x y z e h = h
if_true false out x y z e h = absurd cc

if_false : (b : Bool) (out x y z : List ℕ) → b ≡ false → out ++ (if b then x else y) ≡ z → out ++ y ≡ z
if_false false out x y z e h = h
if_false true out x y z e h = absurd cc

module _ (vs : List Value) (i : ℕ) (value : Value) (out total : List ℕ) (within : i < length vs) (is : value ≡ get_or vs i value) where
  module _ (v : Version) (o : Order) where
    -- a touch behind i others
    pub list_on : is_some (touch_of v o (view value)) ≡ true → out ++ list_lines v o i (items_view (drop i vs)) ≡ total
        → out ++ list_lines v o (i + 1) (items_view (drop (i + 1) vs)) ≡ total
    list_on passes now =
        if_true (is_some (touch_of v o (view value))) out (list_lines v o (i + 1) (items_view (drop (i + 1) vs))) (touch_lines v o i (view value))
        total passes
        (ap (λ (ds : Items). out ++ list_lines v o i ds) (sym (there vs i value within is)) ∙ now)

    -- the first one that is none
    pub list_at : is_some (touch_of v o (view value)) ≡ false → out ++ list_lines v o i (items_view (drop i vs)) ≡ total
        → out ++ touch_lines v o i (view value) ≡ total
    list_at none now =
        if_false (is_some (touch_of v o (view value))) out (list_lines v o (i + 1) (items_view (drop (i + 1) vs))) (touch_lines v o i (view value)) total none
        (ap (λ (ds : Items). out ++ list_lines v o i ds) (sym (there vs i value within is)) ∙ now)

  module _ (w : List ℕ) where
    -- an integer behind i others
    pub element_on : is_integer (view value) ≡ true → out ++ element_lines w i (items_view (drop i vs)) ≡ total
        → out ++ element_lines w (i + 1) (items_view (drop (i + 1) vs)) ≡ total
    element_on passes now =
        if_true (is_integer (view value)) out (element_lines w (i + 1) (items_view (drop (i + 1) vs)))
        (place_lines (element_place w i) (Some (view value)) number_wanted) total passes
        (ap (λ (ds : Items). out ++ element_lines w i ds) (sym (there vs i value within is)) ∙ now)

    -- the first one that is none
    pub element_at : is_integer (view value) ≡ false → out ++ element_lines w i (items_view (drop i vs)) ≡ total
        → out ++ place_lines (element_place w i) (Some (view value)) number_wanted ≡ total
    element_at none now =
        if_false (is_integer (view value)) out (element_lines w (i + 1) (items_view (drop (i + 1) vs)))
        (place_lines (element_place w i) (Some (view value)) number_wanted) total none
        (ap (λ (ds : Items). out ++ element_lines w i ds) (sym (there vs i value within is)) ∙ now)
