-- Looking a label up.
use Rattle.std.proofs.Common.{◌≡◌, ◌∙◌, refl, sym, ℕ, ◌<◌, List, [], Bool, true, false, length, get_or, Option, None, Some, arith}
use Rattle.std.specs.Prelude.{MatchOption, nat_lt, option_map}
use Rattle.std.specs.List.{position_or_len}
use Rattle.std.specs.Str.{bytes_eq}
use Rattle.std.proofs.lemmas.Bool.Decides.{nat_tests}
use Rattle.std.proofs.lemmas.List.Sums.{position_or_len_is}
use Rattle.std.proofs.lemmas.Slice.Eq.{bytes_eq-Decides}
use Rattle.label_lattice.specs.declared.label.Label.{Label}
use Rattle.label_lattice.specs.Order.{Order, IsOrder, name_of}
use Rattle.mit_parser.specs.Scope.{find_label, as_label}

pub not_true : (b : Bool) → (b ≡ true → ⊥) → b ≡ false
not_true true n = absurd (n refl)
not_true false n = refl

module _ (o : Order) (h : IsOrder o) (w : List ℕ) where
  abbrev same : List ℕ → Bool
  same n = bytes_eq w n

  -- the label with a name
  pub label_at : (a : ℕ) → a < o.size → name_of o a ≡ w → option_map as_label (find_label o.names w) ≡ Some (record { number = a })
  label_at a l e =
      let size = h.named in
      let before : (k : ℕ) → k < a → same (get_or o.names k []) ≡ false =
      λ k lt. not_true (same (get_or o.names k [])) (λ t. h.differ k a [] lt (omega arith) (sym ((bytes_eq-Decides w (get_or o.names k [])).0 t) ∙ sym e)) in
      let here : position_or_len same o.names ≡ a =
      position_or_len_is same o.names a [] (omega arith) before (λ _. (bytes_eq-Decides w (get_or o.names a [])).1 (sym e)) in
      let within : nat_lt a (length o.names) ≡ true = grind (arith, nat_tests) in
      rw (here, within)

  -- or none
  pub label_none : ((k : ℕ) → k < o.size → name_of o k ≡ w → ⊥) → option_map as_label (find_label o.names w) ≡ None
  label_none n =
      let size = h.named in
      let before : (k : ℕ) → k < length o.names → same (get_or o.names k []) ≡ false =
      λ k lt. not_true (same (get_or o.names k [])) (λ t. n k (omega arith) (sym ((bytes_eq-Decides w (get_or o.names k [])).0 t))) in
      let here : position_or_len same o.names ≡ length o.names =
      position_or_len_is same o.names (length o.names) [] (omega arith) before (λ lt. absurd (omega arith)) in
      let past : nat_lt (length o.names) (length o.names) ≡ false = grind (arith, nat_tests) in
      rw (here, past)

  -- what a look-up of the label finds
  pub label_found : (r : Option Label)
      → MatchOption r ((k : ℕ) → k < o.size → name_of o k ≡ w → ⊥) (λ a. (a.number < o.size) × (name_of o a.number ≡ w))
      → r ≡ option_map as_label (find_label o.names w)
  label_found None f = sym (label_none f)
  label_found (Some a) f = sym (label_at a.number f.0 f.1)
