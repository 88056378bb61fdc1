-- What holds of the tables and arrays of a document, seen as data.
use Rattle.std.proofs.Common.{◌≡◌, ◌∙◌, ℕ, ◌<◌, ◌≤◌, List, [], ◌∷◌, Bool, false, ◌&&◌, length, refl, sym, ap, le-leb, Option, Some, String, Vec, Global}
use Rattle.std.proofs.Common.{string_bytes, arith}
use Rattle.std.specs.Prelude.{nat_le}
use Rattle.std.proofs.lemmas.Bool.Decides.{nat_tests}
use Rattle.std.specs.List.{list_all}
use Rattle.std.specs.Map.{keys_of}
use Rattle.toml.specs.View.{items_view, members_view, view}
use Rattle.toml.specs.declared.value.Value.{Value, Array}
use Rattle.toml.proofs.Views.{view-Array}
use Rattle.start_file.specs.Tables.{keys_pass, count_items}
use Rattle.start_file.specs.Values.{is_integer, are_integers, is_filling}

-- each key of a table passes
pub keys_pass_view : (test : List ℕ → Bool) (es : List (String Global × Value))
    → list_all (λ k. test (string_bytes k)) (keys_of es) ≡ keys_pass test (members_view es)
keys_pass_view test [] = refl
keys_pass_view test (e ∷ es) = ap (λ (b : Bool). test (string_bytes e.0) && b) (keys_pass_view test es)

pub count_items_view : (vs : List Value) → count_items (items_view vs) ≡ length vs
count_items_view [] = refl
count_items_view (v ∷ vs) = omega (arith, count_items_view vs)

-- each item of an array is an integer
pub are_integers_view : (vs : List Value) → list_all (λ v. is_integer (view v)) vs ≡ are_integers (items_view vs)
are_integers_view [] = refl
are_integers_view (v ∷ vs) = ap (λ (b : Bool). is_integer (view v) && b) (are_integers_view vs)

-- the value of an array
module _ (v : Value) (a : Vec Value Global) (length_of : Option ℕ) (n : ℕ) (is : v ≡ Array a) (has : length_of ≡ Some n) where
  array_filling : is_filling length_of (view v) ≡ (nat_le (length a.items) n && list_all (λ x. is_integer (view x)) a.items)
  array_filling = rw (is, has, view-Array, count_items_view, are_integers_view)

  pub short_filling : length a.items ≤ n → is_filling length_of (view v) ≡ list_all (λ x. is_integer (view x)) a.items
  short_filling le = array_filling ∙ ap (λ (b : Bool). b && list_all (λ x. is_integer (view x)) a.items) (le-leb (length a.items) n le)

  pub long_filling : n < length a.items → is_filling length_of (view v) ≡ false
  long_filling lt =
      let e : nat_le (length a.items) n ≡ false = grind (arith, nat_tests) in
      array_filling ∙ ap (λ (b : Bool). b && list_all (λ x. is_integer (view x)) a.items) e

-- what a test of all keys tells
pub keys_told : (test : List ℕ → Bool) (es : List (String Global × Value)) (r b : Bool) → r ≡ list_all (λ k. test (string_bytes k)) (keys_of es) → r ≡ b
    → keys_pass test (members_view es) ≡ b
keys_told test es r b is told = sym (keys_pass_view test es) ∙ sym is ∙ told
