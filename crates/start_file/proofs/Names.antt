-- Looking names up.
use Rattle.std.proofs.Common.{◌≡◌, ◌∙◌, refl, sym, ap, subst, ℕ, ◌<◌, ◌≤◌, List, [], Bool, true, false, length, get_or, Option, None, Some, arith}
use Rattle.std.specs.Prelude.{All, MatchOption, nat_lt, option_map, ◌+◌}
use Rattle.std.specs.List.{position_or_len}
use Rattle.std.specs.Str.{bytes_eq}
use Rattle.std.proofs.lemmas.Bool.Decides.{nat_tests}
use Rattle.std.proofs.lemmas.List.Sums.{position_or_len_is}
use Rattle.std.proofs.lemmas.Slice.Eq.{bytes_eq-Decides}
use Rattle.label_lattice.specs.declared.label.Label.{Label}
use Rattle.label_lattice.specs.Names.{IsName}
use Rattle.label_lattice.specs.Order.{Order, IsOrder, name_of}
use Rattle.mit_syntax.specs.declared.declarations.Decl.{Decl}
use Rattle.mit_syntax.specs.Declarations.{Declaration, declared, size_in, variables}
use Rattle.mit_syntax.proofs.Facts.{declared_place, declared_has, first_below}
use Rattle.std.proofs.lemmas.Option.{none-some, same_Some}
use Rattle.start_file.specs.declared.slot.Slot.{Slot}
use Rattle.start_file.specs.Values.{slot_of}
use Rattle.start_file.specs.Touches.{label_named}

-- what is no name is declared nowhere
pub unnamed : (ds : List Declaration) (w : List ℕ) → All (λ d. IsName d.0) ds → (IsName w → ⊥) → declared ds w ≡ None
unnamed ds w named none = by (declared ds w) refl
  where
    by : (r : Option (ℕ × Decl)) → declared ds w ≡ r → r ≡ None
    by None e = refl
    by (Some r) e = absurd (none (declared_has ds w r.0 r.1 (declared_place ds w r.0 r.1 e) (λ d. IsName d.0) named))

pub unnamed_slot : (ds : List Declaration) (w : List ℕ) → All (λ d. IsName d.0) ds → (IsName w → ⊥) → slot_of ds w ≡ None
unnamed_slot ds w named none = ap (option_map (λ (r : ℕ × Decl). record { first = r.0; length = r.1.length })) (unnamed ds w named none)

pub not_true : (b : Bool) → (b ≡ true → ⊥) → b ≡ false
not_true true n = absurd (n refl)
not_true false n = refl

module _ (o : Order) (h : IsOrder o) (w : List ℕ) where
  abbrev same : List ℕ → Bool
  same n = bytes_eq n w

  -- the label with a name
  pub label_at : (a : ℕ) → a < o.size → name_of o a ≡ w → label_named o w ≡ Some (record { number = a })
  label_at a l e =
      let size = h.named in
      let before : (k : ℕ) → k < a → same (get_or o.names k []) ≡ false =
      λ k lt. not_true (same (get_or o.names k [])) (λ t. h.differ k a [] lt (omega arith) ((bytes_eq-Decides (get_or o.names k []) w).0 t ∙ sym e)) in
      let here : position_or_len same o.names ≡ a =
      position_or_len_is same o.names a [] (omega arith) before (λ _. (bytes_eq-Decides (get_or o.names a []) w).1 e) in
      let within : nat_lt a (length o.names) ≡ true = grind (arith, nat_tests) in
      rw (here, within)

  -- or none
  pub label_none : ((k : ℕ) → k < o.size → name_of o k ≡ w → ⊥) → label_named o w ≡ None
  label_none n =
      let size = h.named in
      let before : (k : ℕ) → k < length o.names → same (get_or o.names k []) ≡ false =
      λ k lt. not_true (same (get_or o.names k [])) (λ t. n k (omega arith) ((bytes_eq-Decides (get_or o.names k []) w).0 t)) in
      let here : position_or_len same o.names ≡ length o.names =
      position_or_len_is same o.names (length o.names) [] (omega arith) before (λ lt. absurd (omega arith)) in
      let past : nat_lt (length o.names) (length o.names) ≡ false = grind (arith, nat_tests) in
      rw (here, past)

  pub label_unnamed : (IsName w → ⊥) → label_named o w ≡ None
  label_unnamed none = let size = h.named in label_none (λ k lt e. none (subst IsName e (h.names k [] (omega arith))))

  -- what a look-up of the label finds
  pub label_found : (n : List ℕ) (r : Option Label) → n ≡ w
      → MatchOption r ((k : ℕ) → k < o.size → name_of o k ≡ n → ⊥) (λ a. (a.number < o.size) × (name_of o a.number ≡ n)) → r ≡ label_named o w
  label_found n None e f = sym (label_none (λ k l g. f k l (g ∙ sym e)))
  label_found n (Some a) e f = sym (label_at a.number f.0 (f.1 ∙ e))

-- a declared name's variables are below the number of all
pub slot_below : (ds : List Declaration) (w : List ℕ) (s : Slot) → slot_of ds w ≡ Some s → s.first + size_in s.length ≤ variables ds
slot_below ds w s e = by (declared ds w) refl e
  where
    by : (r : Option (ℕ × Decl)) → declared ds w ≡ r → option_map (λ (p : ℕ × Decl). record { first = p.0; length = p.1.length }) r ≡ Some s
        → s.first + size_in s.length ≤ variables ds
    by None h k = absurd (none-some s k)
    by (Some r) h k =
        let at = declared_place ds w r.0 r.1 h in
        let b = first_below ds at.place (w, r.1) at.there in
        let f = at.first in
        let here : r.0 + size_in r.1.length ≤ variables ds = omega (arith, b, f) in
        subst (λ (z : Slot). z.first + size_in z.length ≤ variables ds) (same_Some (record { first = r.0; length = r.1.length }) s k) here
