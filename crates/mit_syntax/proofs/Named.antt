-- Looking a name up.
use Rattle.std.proofs.Common.{◌≡◌, refl, sym, ap, ◌∙◌, subst, ℕ, zero, suc, ◌+◌, ◌<◌, List, [], ◌∷◌, get_or, None, Some, arith}
use Rattle.std.specs.Prelude.{Bool, true, false, slice_get, map, position, option_map}
use Rattle.std.specs.Str.{bytes_eq}
use Rattle.std.specs.Map.{keys_of, lookup}
use Rattle.std.specs.List.{IsDistinct}
use Rattle.std.proofs.lemmas.Map.Keys.{apart_from_distinct}
use Rattle.std.proofs.lemmas.Slice.Eq.{bytes_eq-Decides}
use Rattle.label_lattice.specs.Order.{AllDiffer}
use Rattle.std.proofs.lemmas.Bool.{cond-true, cond-false, both_ways}
use Rattle.std.proofs.lemmas.List.Quantifiers.{position-Some}
use Rattle.std.proofs.lemmas.Option.{none-some, same_Some, slice_get-map, get_or_from_slice_get}
use Rattle.indexmap.proofs.MapLemmas.{Missing-position}
use Rattle.label_lattice.specs.contracts.name.NamePartialEq.TheImpl.{eq-value}
use Rattle.mit_syntax.specs.declared.declarations.Decl.{Decl}
use Rattle.mit_syntax.specs.Declarations.{Declaration, declared, first_of, size_of, scalar_from, scalar_in, find_scalar, array_from, array_in, find_array}

-- names are equal exactly where their bytes are
pub same_name : (a b : List ℕ) → eq-value.it a b ≡ bytes_eq a b
same_name a b = refl

pub declared_first : (ds : List Declaration) (w : List ℕ) (k : ℕ) (d : Declaration) → slice_get ds k ≡ Some d → bytes_eq w d.0 ≡ true
    → ((j : ℕ) (x : Declaration) → j < k → slice_get ds j ≡ Some x → bytes_eq w x.0 ≡ false) → declared ds w ≡ Some (first_of ds k, d.1)
declared_first [] w k d e y n = absurd (none-some d e)
declared_first (x ∷ ds) w zero d e y n =
    let same : x ≡ d = same_Some x d e in
    subst (λ (z : Declaration). declared (z ∷ ds) w ≡ Some (0, d.1)) (sym same)
    (cond-true (bytes_eq w d.0) (Some (0, d.1)) (option_map (λ r. (size_of d.1 + r.0, r.1)) (declared ds w)) y)
declared_first (x ∷ ds) w (suc k) d e y n =
    cond-false (bytes_eq w x.0) (Some (0, x.1)) (option_map (λ r. (size_of x.1 + r.0, r.1)) (declared ds w)) (n 0 x (omega arith) refl)
    ∙ ap (option_map (λ r. (size_of x.1 + r.0, r.1))) (declared_first ds w k d e y (λ j z l h. n (suc j) z (omega (arith, l)) h))

-- what a look-up of a place tells
pub declared_at : (test : List ℕ → Bool) (w : List ℕ) → ((v : List ℕ) → test v ≡ bytes_eq w v) → (ds : List Declaration) (k : ℕ) (d : Declaration)
    → Some k ≡ position test (keys_of ds) → slice_get ds k ≡ Some d → declared ds w ≡ Some (first_of ds k, d.1)
declared_at test w same ds k d h e =
    let p = position-Some test (keys_of ds) k [] (sym h) in
    let at : (j : ℕ) (x : Declaration) → slice_get ds j ≡ Some x → get_or (keys_of ds) j [] ≡ x.0 =
    λ j x q. get_or_from_slice_get (keys_of ds) j x.0 [] (slice_get-map (λ (z : Declaration). z.0) ds j ∙ ap (option_map (λ (z : Declaration). z.0)) q) in
    declared_first ds w k d e
    (sym (same d.0) ∙ ap test (sym (at k d e)) ∙ p.1)
    (λ j x l q. sym (same x.0) ∙ ap test (sym (at j x q)) ∙ p.2 j l)

absent : (test : List ℕ → Bool) (w : List ℕ) → ((v : List ℕ) → test v ≡ bytes_eq w v) → (ds : List Declaration) → lookup test ds ≡ None → declared ds w ≡ None
absent test w same [] h = refl
absent test w same (d ∷ ds) h = by (absent test w same ds) (test d.0) refl
  where
    by : (lookup test ds ≡ None → declared ds w ≡ None) → (b : Bool) → test d.0 ≡ b → declared (d ∷ ds) w ≡ None
    by rest true e = absurd (none-some d.1 (sym h ∙ cond-true (test d.0) (Some d.1) (lookup test ds) e))
    by rest false e =
        cond-false (bytes_eq w d.0) (Some (0, d.1)) (option_map (λ r. (size_of d.1 + r.0, r.1)) (declared ds w)) (sym (same d.0) ∙ e)
        ∙ ap (option_map (λ r. (size_of d.1 + r.0, r.1))) (rest (sym (cond-false (test d.0) (Some d.1) (lookup test ds) e) ∙ h))

pub declared_none : (test : List ℕ → Bool) (w : List ℕ) → ((v : List ℕ) → test v ≡ bytes_eq w v) → (ds : List Declaration)
    → None ≡ position test (keys_of ds) → declared ds w ≡ None
declared_none test w same ds h = absent test w same ds (Missing-position test ds (sym h)).value

module _ (ds : List Declaration) (w : List ℕ) where
  pub scalar_none : declared ds w ≡ None → find_scalar ds w ≡ None
  scalar_none e = ap scalar_in e

  pub array_none : declared ds w ≡ None → find_array ds w ≡ None
  array_none e = ap array_in e

  module _ (f : ℕ) (d : Decl) (e : declared ds w ≡ Some (f, d)) where
    pub scalar_found : d.length ≡ None → find_scalar ds w ≡ Some f
    scalar_found h = ap scalar_in e ∙ ap (scalar_from f) h

    pub array_found : (n : ℕ) → d.length ≡ Some n → find_array ds w ≡ Some (f, n)
    array_found n h = ap array_in e ∙ ap (array_from f) h

    pub scalar_not : (n : ℕ) → d.length ≡ Some n → find_scalar ds w ≡ None
    scalar_not n h = ap scalar_in e ∙ ap (scalar_from f) h

    pub array_not : d.length ≡ None → find_array ds w ≡ None
    array_not h = ap array_in e ∙ ap (array_from f) h

-- the names of a map's entries differ
pub names_differ : (ds : List Declaration) → IsDistinct eq-value.it (keys_of ds) → AllDiffer (map (λ d. d.0) ds)
names_differ ds h i j d l k s =
    let a = get_or (keys_of ds) i d in
    let b = get_or (keys_of ds) j d in
    both_ways (bytes_eq a b) (apart_from_distinct eq-value.it (keys_of ds) i j d h l k) ((bytes_eq-Decides a b).1 s)
