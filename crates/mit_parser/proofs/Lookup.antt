-- Names are looked up.
use Rattle.std.proofs.Common.{◌≡◌, ◌≤◌, ◌∙◌, refl, sym, ap, ℕ, zero, suc, ◌+◌, ◌<◌, List, [], ◌∷◌, ◌++◌, length, length-append, get_or, Bool, true, false}
use Rattle.std.proofs.Common.{true≢false, cond, Option, None, Some, arith}
use Rattle.std.specs.Prelude.{nat_lt, is_some, option_map}
use Rattle.std.specs.List.{position_or_len}
use Rattle.std.specs.Str.{bytes_eq}
use Rattle.std.proofs.Math.Seq.{get_or-append_seam}
use Rattle.std.proofs.lemmas.Bool.{cond-true, cond-false, ltb-false}
use Rattle.std.proofs.lemmas.Bool.Decides.{nat_tests}
use Rattle.std.proofs.lemmas.List.{get_or_append_left}
use Rattle.std.proofs.lemmas.List.Sums.{position_or_len_is, fails_before_first}
use Rattle.std.proofs.lemmas.Slice.Eq.{bytes_eq-Decides}
use Rattle.label_lattice.specs.Order.{AllDiffer}
use Rattle.mit_syntax.specs.declared.declarations.Decl.{Decl}
use Rattle.mit_syntax.specs.Declarations.{Declaration, declared, size_of}
use Rattle.mit_parser.specs.Scope.{find_label}
use Rattle.mit_parser.specs.Named.{declared_names}
use Rattle.mit_parser.proofs.Found.{not_true}

other : (w x : List ℕ) → (x ≡ w → ⊥) → bytes_eq w x ≡ false
other w x n = not_true (bytes_eq w x) (λ t. n (sym ((bytes_eq-Decides w x).0 t)))

module _ (names : List (List ℕ)) (w : List ℕ) where
  pub found_at : (a : ℕ) → a < length names → get_or names a [] ≡ w → ((k : ℕ) → k < a → get_or names k [] ≡ w → ⊥) → find_label names w ≡ Some a
  found_at a l e n =
      let here : position_or_len (bytes_eq w) names ≡ a =
      position_or_len_is (bytes_eq w) names a [] (omega (arith, l)) (λ k lt. other w (get_or names k []) (n k lt))
      (λ _. (bytes_eq-Decides w (get_or names a [])).1 (sym e)) in
      let within : nat_lt a (length names) ≡ true = grind (arith, nat_tests) in
      rw (here, within)

  pub found_none : ((k : ℕ) → k < length names → get_or names k [] ≡ w → ⊥) → find_label names w ≡ None
  found_none n =
      let here : position_or_len (bytes_eq w) names ≡ length names =
      position_or_len_is (bytes_eq w) names (length names) [] (omega arith) (λ k lt. other w (get_or names k []) (n k lt))
      (λ lt. absurd (omega (arith, lt))) in
      let past : nat_lt (length names) (length names) ≡ false = grind (arith, nat_tests) in
      rw (here, past)

  -- a name that is not found differs from each
  pub apart_from : is_some (find_label names w) ≡ false → (k : ℕ) (d : List ℕ) → k < length names → get_or names k d ≡ w → ⊥
  apart_from e k d l s =
      let past = by (nat_lt (position_or_len (bytes_eq w) names) (length names)) refl in
      let no : bytes_eq w (get_or names k d) ≡ false = fails_before_first (bytes_eq w) names k d (omega (arith, l, past)) in
      let yes : bytes_eq w (get_or names k d) ≡ true = (bytes_eq-Decides w (get_or names k d)).1 (sym s) in
      true≢false (sym yes ∙ no)
    where
      by : (b : Bool) → nat_lt (position_or_len (bytes_eq w) names) (length names) ≡ b → length names ≤ position_or_len (bytes_eq w) names
      by true q =
          let z : true ≡ false = sym (ap (λ b. is_some {T = ℕ} (cond b (Some (position_or_len (bytes_eq w) names)) None)) q) ∙ e in
          absurd (true≢false z)
      by false q = ltb-false (position_or_len (bytes_eq w) names) (length names) q

-- a name differs from those before it
pub apart_before : (xs ys : List (List ℕ)) (x : List ℕ) → AllDiffer (xs ++ x ∷ ys) → (k : ℕ) → k < length xs → get_or xs k [] ≡ x → ⊥
apart_before xs ys x h k lt e =
    let n = length-append xs (x ∷ ys) in
    h k (length xs) [] lt (omega (arith, n)) (get_or_append_left xs (x ∷ ys) [] k lt ∙ e ∙ sym (get_or-append_seam xs x ys []))

pub absent : (ds : List Declaration) (w : List ℕ) → ((k : ℕ) → k < length (declared_names ds) → get_or (declared_names ds) k [] ≡ w → ⊥) → declared ds w ≡ None
absent [] w n = refl
absent (d ∷ ds) w n =
    cond-false (bytes_eq w d.0) (Some (0, d.1)) (option_map (λ r. (size_of d.1 + r.0, r.1)) (declared ds w)) (other w d.0 (n 0 (omega arith)))
    ∙ ap (option_map (λ r. (size_of d.1 + r.0, r.1))) (absent ds w (λ k lt e. n (suc k) (omega (arith, lt)) e))

some_map : (n : ℕ) (r : Option (ℕ × Decl)) → is_some {T = ℕ × Decl} (option_map (λ (q : ℕ × Decl). (n + q.0, q.1)) r) ≡ is_some r
some_map n None = refl
some_map n (Some q) = refl

-- a name that is not declared differs from each that is
pub apart_declared : (ds : List Declaration) (w : List ℕ) → is_some (declared ds w) ≡ false → (k : ℕ) (d : List ℕ) → k < length (declared_names ds)
    → get_or (declared_names ds) k d ≡ w → ⊥
apart_declared [] w e k d l s = absurd (omega (arith, l))
apart_declared (x ∷ ds) w e k d l s = by (apart_declared ds w) k l s (bytes_eq w x.0) refl
  where
    by : (is_some (declared ds w) ≡ false → (k : ℕ) (d : List ℕ) → k < length (declared_names ds) → get_or (declared_names ds) k d ≡ w → ⊥)
        → (k : ℕ) → k < length (declared_names (x ∷ ds)) → get_or (declared_names (x ∷ ds)) k d ≡ w → (b : Bool) → bytes_eq w x.0 ≡ b → ⊥
    by rest k l s true h =
        let z : true ≡ false = sym (ap is_some (cond-true (bytes_eq w x.0) (Some (0, x.1)) (option_map (λ r. (size_of x.1 + r.0, r.1)) (declared ds w)) h))
        ∙ e in
        true≢false z
    by rest zero l s false h = true≢false (sym ((bytes_eq-Decides w x.0).1 (sym s)) ∙ h)
    by rest (suc k) l s false h =
        let z : is_some (declared ds w) ≡ false =
        sym (some_map (size_of x.1) (declared ds w))
        ∙ sym (ap is_some (cond-false (bytes_eq w x.0) (Some (0, x.1)) (option_map (λ r. (size_of x.1 + r.0, r.1)) (declared ds w)) h)) ∙ e in
        rest z k d (omega (arith, l)) s
