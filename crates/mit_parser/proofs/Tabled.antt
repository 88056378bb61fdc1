-- Declarations in a table.
use Rattle.std.proofs.Common.{◌≡◌, ◌+◌, ◌≤◌, refl, sym, ap, ◌∙◌, ℕ, ℤ, List, [], ◌∷◌, ◌++◌, Bool, true, false, cond, Option, None, Some, arith}
use Rattle.std.specs.Prelude.{is_some, position, option_map, ltb, ◌||◌, ◌==◌}
use Rattle.std.specs.Str.{bytes_eq}
use Rattle.std.specs.Map.{keys_of, lookup}
use Rattle.std.proofs.lemmas.Bool.{cond-true, cond-false, ltb-false}
use Rattle.indexmap.proofs.MapLemmas.{some_index}
use Rattle.text_base.specs.declared.pos.Pos.{Pos}
use Rattle.mit_syntax.specs.declared.declarations.Decl.{Decl}
use Rattle.mit_syntax.specs.Declarations.{Declaration, declared, size_of, elements_in, length_in}
use Rattle.mit_parser.specs.declared.fault.ParseFault.TheVariants.{Size}
use Rattle.mit_parser.specs.Faults.{size_number, is_bad_size, length_fault, written_length}

some_map : (n : ℕ) (r : Option (ℕ × Decl)) → is_some {T = ℕ × Decl} (option_map (λ (q : ℕ × Decl). (n + q.0, q.1)) r) ≡ is_some r
some_map n None = refl
some_map n (Some q) = refl

pub looked_up : (ds : List Declaration) (w : List ℕ) → is_some (lookup (bytes_eq w) ds) ≡ is_some (declared ds w)
looked_up [] w = refl
looked_up (d ∷ ds) w = by (looked_up ds w) (bytes_eq w d.0) refl
  where
    by : is_some (lookup (bytes_eq w) ds) ≡ is_some (declared ds w) → (b : Bool) → bytes_eq w d.0 ≡ b
        → is_some (lookup (bytes_eq w) (d ∷ ds)) ≡ is_some (declared (d ∷ ds) w)
    by rest true e =
        ap is_some (cond-true (bytes_eq w d.0) (Some d.1) (lookup (bytes_eq w) ds) e)
        ∙ sym (ap is_some (cond-true (bytes_eq w d.0) (Some (0, d.1)) (option_map (λ r. (size_of d.1 + r.0, r.1)) (declared ds w)) e))
    by rest false e =
        ap is_some (cond-false (bytes_eq w d.0) (Some d.1) (lookup (bytes_eq w) ds) e) ∙ rest ∙ sym (some_map (size_of d.1) (declared ds w))
        ∙ sym (ap is_some (cond-false (bytes_eq w d.0) (Some (0, d.1)) (option_map (λ r. (size_of d.1 + r.0, r.1)) (declared ds w)) e))

pub placed : (ds : List Declaration) (w : List ℕ) → is_some (position (bytes_eq w) (keys_of ds)) ≡ is_some (declared ds w)
placed ds w = some_index (bytes_eq w) ds ∙ looked_up ds w

none_of : {A : Type 0} (o : Option A) → is_some o ≡ false → o ≡ None
none_of None e = refl
none_of (Some a) e = cc

pub lookup_none : (ds : List Declaration) (w : List ℕ) → declared ds w ≡ None → lookup (bytes_eq w) ds ≡ None
lookup_none ds w e = none_of (lookup (bytes_eq w) ds) (looked_up ds w ∙ ap is_some e)

pub elements_push : (ds : List Declaration) (d : Declaration) → elements_in (ds ++ d ∷ []) ≡ elements_in ds + length_in d.1.length
elements_push [] d = omega arith
elements_push (x ∷ ds) d = omega (arith, elements_push ds d)

pub few_after : (ds : List Declaration) (n : Option (ℤ × Pos)) → elements_in ds ≤ 2048 → length_fault ds n ≡ None
    → elements_in ds + length_in (written_length n) ≤ 2048
few_after ds None h e = omega (arith, h)
few_after ds (Some n) h e = by (is_bad_size n.0 (elements_in ds)) refl
  where
    second : (a b : Bool) → (a || b) ≡ false → b ≡ false
    second true b q = cc
    second false b q = q

    by : (b : Bool) → is_bad_size n.0 (elements_in ds) ≡ b → elements_in ds + size_number n.0 ≤ 2048
    by true q = let z = sym (ap (λ b. cond b (Some (Size n.1)) None) q) ∙ e in cc
    by false q = ltb-false 2048 (elements_in ds + size_number n.0) (second (size_number n.0 == 0) (ltb 2048 (elements_in ds + size_number n.0)) q)
