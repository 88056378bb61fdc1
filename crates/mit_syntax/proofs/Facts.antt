-- What a caller gets from a program: where its variables and arrays are, and what is written of them.
use Rattle.std.proofs.Common.{◌≡◌, refl, sym, ap, ◌∙◌, subst, ℕ, zero, suc, ◌+◌, ◌<◌, ◌≤◌, List, [], ◌∷◌, Option, None, Some, arith, length-append}
use Rattle.std.specs.Prelude.{All, Bool, true, false, slice_get, option_map}
use Rattle.std.specs.Str.{bytes_eq}
use Rattle.std.proofs.lemmas.Bool.{cond-true, cond-false}
use Rattle.std.proofs.lemmas.Option.{none-some, same_Some, slice_get_within, get_or_from_slice_get}
use Rattle.std.proofs.lemmas.Slice.Eq.{bytes_eq-Decides}
use Rattle.label_lattice.specs.declared.label.Label.{Label}
use Rattle.mit_syntax.specs.declared.declarations.Decl.{Decl}
use Rattle.mit_syntax.specs.Declarations.{Declaration, Cell, cells_of, cells, cell_at, place_in, size_in, size_of, variables, first_of, declared, scalar_from}
use Rattle.mit_syntax.specs.Declarations.{scalar_in, find_scalar, array_from, array_in, find_array}
use Rattle.mit_syntax.specs.Valid.{IsShaped, AreShaped}
use Rattle.mit_syntax.proofs.Numbers.{cell_in, length-cells_of}

-- a declaration with its place, and the number of its first variable
pub record DeclaredAt (ds : List Declaration) (w : List ℕ) (f : ℕ) (d : Decl) : Type 0 where
  pub place : ℕ
  pub there : slice_get ds place ≡ Some (w, d)
  pub first : first_of ds place ≡ f

abbrev shift : ℕ → ℕ × Decl → ℕ × Decl
shift n r = (n + r.0, r.1)

declared_later : (ds : List Declaration) (w : List ℕ) (x : Declaration) (f : ℕ) (d : Decl) → (r : Option (ℕ × Decl))
    → ((g : ℕ) → r ≡ Some (g, d) → DeclaredAt ds w g d) → option_map (shift (size_of x.1)) r ≡ Some (f, d) → DeclaredAt (x ∷ ds) w f d
declared_later ds w x f d None h e = absurd (none-some (f, d) e)
declared_later ds w x f d (Some p) h e =
    let q : (size_of x.1 + p.0, p.1) ≡ (f, d) = same_Some (size_of x.1 + p.0, p.1) (f, d) e in
    let i : DeclaredAt ds w p.0 d = h p.0 (ap (λ z. Some (p.0, z)) (ap (λ (z : ℕ × Decl). z.1) q)) in
    record { place = suc i.place; there = i.there; first = ap (λ n. size_of x.1 + n) i.first ∙ ap (λ (z : ℕ × Decl). z.0) q }

pub declared_place : (ds : List Declaration) (w : List ℕ) (f : ℕ) (d : Decl) → declared ds w ≡ Some (f, d) → DeclaredAt ds w f d
declared_place [] w f d e = absurd (none-some (f, d) e)
declared_place (x ∷ ds) w f d e = by (λ g. declared_place ds w g d) (bytes_eq w x.0) refl
  where
    by : ((g : ℕ) → declared ds w ≡ Some (g, d) → DeclaredAt ds w g d) → (b : Bool) → bytes_eq w x.0 ≡ b → DeclaredAt (x ∷ ds) w f d
    by rest true h =
        let name : w ≡ x.0 = (bytes_eq-Decides w x.0).0 h in
        let q : (0, x.1) ≡ (f, d) = same_Some (0, x.1) (
          f,
          d,
        ) (sym (cond-true (bytes_eq w x.0) (Some (0, x.1)) (option_map (shift (size_of x.1)) (declared ds w)) h) ∙ e) in
        record {
          place = 0;
          there = ap (λ z. Some (z, x.1)) (sym name) ∙ ap (λ z. Some (w, z)) (ap (λ (z : ℕ × Decl). z.1) q);
          first =
              ap (λ (z : ℕ × Decl). z.0) q;
        }
    by rest false h =
        declared_later ds w x f d (declared ds w) rest
        (sym (cond-false (bytes_eq w x.0) (Some (0, x.1)) (option_map (shift (size_of x.1)) (declared ds w)) h) ∙ e)

module _ (ds : List Declaration) (w : List ℕ) (f : ℕ) (d : Decl) (at : DeclaredAt ds w f d) where
  -- what is true of each declaration is true of this one
  pub declared_has : (P : Declaration → Type 0) → All P ds → P (w, d)
  declared_has P h = subst P (get_or_from_slice_get ds at.place (w, d) (w, d) at.there) (h at.place (w, d) (slice_get_within ds at.place (w, d) at.there))

scalar_parts : (f x : ℕ) (n : Option ℕ) → scalar_from f n ≡ Some x → (n ≡ None) × (f ≡ x)
scalar_parts f x None e = (refl, same_Some f x e)
scalar_parts f x (Some n) e = absurd (none-some x e)

array_parts : (f : ℕ) (m : Option ℕ) (r : ℕ × ℕ) → array_from f m ≡ Some r → (m ≡ Some r.1) × (f ≡ r.0)
array_parts f None r e = absurd (none-some r e)
array_parts f (Some n) r e = let q : (f, n) ≡ r = same_Some (f, n) r e in (ap (λ (z : ℕ × ℕ). Some z.1) q, ap (λ (z : ℕ × ℕ). z.0) q)

-- what a scalar's number stands for
pub record ScalarAt (ds : List Declaration) (w : List ℕ) (x : ℕ) : Type 0 where
  pub decl : Decl
  pub scalar : decl.length ≡ None
  pub at : DeclaredAt ds w x decl

pub record ArrayAt (ds : List Declaration) (w : List ℕ) (f n : ℕ) : Type 0 where
  pub decl : Decl
  pub array : decl.length ≡ Some n
  pub at : DeclaredAt ds w f decl

pub scalar_at : (ds : List Declaration) (w : List ℕ) (x : ℕ) → find_scalar ds w ≡ Some x → ScalarAt ds w x
scalar_at ds w x e = by (declared ds w) refl e
  where
    by : (r : Option (ℕ × Decl)) → declared ds w ≡ r → scalar_in r ≡ Some x → ScalarAt ds w x
    by None h k = absurd (none-some x k)
    by (Some r) h k =
        let p = scalar_parts r.0 x r.1.length k in
        record { decl = r.1; scalar = p.0; at = declared_place ds w x r.1 (h ∙ ap (λ z. Some (z, r.1)) p.1) }

pub array_at : (ds : List Declaration) (w : List ℕ) (f n : ℕ) → find_array ds w ≡ Some (f, n) → ArrayAt ds w f n
array_at ds w f n e = by (declared ds w) refl e
  where
    by : (r : Option (ℕ × Decl)) → declared ds w ≡ r → array_in r ≡ Some (f, n) → ArrayAt ds w f n
    by None h k = absurd (none-some (f, n) k)
    by (Some r) h k =
        let p = array_parts r.0 r.1.length (f, n) k in
        record { decl = r.1; array = p.0; at = declared_place ds w f r.1 (h ∙ ap (λ z. Some (z, r.1)) p.1) }

-- each declaration's variables are below the number of all
pub first_below : (ds : List Declaration) (k : ℕ) (d : Declaration) → slice_get ds k ≡ Some d → first_of ds k + size_of d.1 ≤ variables ds
first_below [] k d e = absurd (none-some d e)
first_below (x ∷ ds) zero d e =
    let same : x ≡ d = same_Some x d e in
    let m : size_of x.1 ≡ size_of d.1 = ap (λ (z : Declaration). size_of z.1) same in
    let n = length-cells_of x.0 x.1.label x.1.length in
    let a = length-append (cells_of x.0 x.1.label x.1.length) (cells ds) in
    omega (arith, m, n, a)
first_below (x ∷ ds) (suc k) d e =
    let r = first_below ds k d e in
    let n = length-cells_of x.0 x.1.label x.1.length in
    let a = length-append (cells_of x.0 x.1.label x.1.length) (cells ds) in
    omega (arith, r, n, a)

module _ (ds : List Declaration) (w : List ℕ) where
  module _ (x : ℕ) (e : find_scalar ds w ≡ Some x) where
    -- a scalar's number is that of a variable
    pub scalar_below : x < variables ds
    scalar_below =
        let s = scalar_at ds w x e in
        let f = s.at.first in
        let b = first_below ds s.at.place (w, s.decl) s.at.there in
        let n : size_of s.decl ≡ 1 = ap size_in s.scalar in
        omega (arith, f, b, n)

    -- with this name, and no place in an array
    pub scalar_cell : cell_at ds x ≡ record { name = w; label = (scalar_at ds w x e).decl.label; place = None }
    scalar_cell =
        let s = scalar_at ds w x e in
        let n : size_of s.decl ≡ 1 = ap size_in s.scalar in
        let i : 0 < size_of s.decl = omega (arith, n) in
        let f = s.at.first in
        let z : x ≡ first_of ds s.at.place + 0 = omega (arith, f) in
        ap (cell_at ds) z ∙ cell_in ds s.at.place 0 (w, s.decl) _ s.at.there i
        ∙ ap (λ m. record { name = w; label = s.decl.label; place = place_in m 0 }) s.scalar

    pub scalar_name : (cell_at ds x).name ≡ w
    scalar_name = ap (λ (c : Cell). c.name) scalar_cell

    pub scalar_place : (cell_at ds x).place ≡ None
    scalar_place = ap (λ (c : Cell). c.place) scalar_cell

  module _ (f n : ℕ) (e : find_array ds w ≡ Some (f, n)) where
    -- an array's elements are variables
    pub array_below : f + n ≤ variables ds
    array_below =
        let s = array_at ds w f n e in
        let g = s.at.first in
        let b = first_below ds s.at.place (w, s.decl) s.at.there in
        let m : size_of s.decl ≡ n = ap size_in s.array in
        omega (arith, g, b, m)

    -- each with the array's name and label, and its place
    pub array_cell : (k : ℕ) → k < n → cell_at ds (f + k) ≡ record { name = w; label = (array_at ds w f n e).decl.label; place = Some k }
    array_cell k h =
        let s = array_at ds w f n e in
        let m : size_of s.decl ≡ n = ap size_in s.array in
        let i : k < size_of s.decl = omega (arith, m, h) in
        let g = s.at.first in
        let z : f + k ≡ first_of ds s.at.place + k = omega (arith, g) in
        ap (cell_at ds) z ∙ cell_in ds s.at.place k (w, s.decl) _ s.at.there i
        ∙ ap (λ m. record { name = w; label = s.decl.label; place = place_in m k }) s.array

    -- all have one label
    pub array_label : (k : ℕ) → k < n → (cell_at ds (f + k)).label ≡ (cell_at ds f).label
    array_label k h =
        let i : 0 < n = omega (arith, h) in
        let z : f ≡ f + 0 = omega arith in
        ap (λ (c : Cell). c.label) (array_cell k h) ∙ sym (ap (λ (c : Cell). c.label) (array_cell 0 i)) ∙ ap (λ x. (cell_at ds x).label) (sym z)

    module _ (a : AreShaped ds) where
      shaped : IsShaped (array_at ds w f n e).decl.label (array_at ds w f n e).decl.length
      shaped =
          let s = array_at ds w f n e in
          declared_has ds w f s.decl s.at (λ d. IsShaped d.1.label d.1.length) a

      -- an array has an element
      pub array_some : 0 < n
      array_some = by (array_at ds w f n e).decl.label (array_at ds w f n e).decl.length (array_at ds w f n e).array shaped
        where
          by : (l : Option Label) (m : Option ℕ) → m ≡ Some n → IsShaped l m → 0 < n
          by l None q i = absurd (none-some n q)
          by None (Some m) q i = absurd i
          by (Some l) (Some m) q i = subst (λ z. 0 < z) (same_Some m n q) i

      pub array_first_below : f < variables ds
      array_first_below = let b = array_below in let h = array_some in omega (arith, b, h)

      pub array_name : (cell_at ds f).name ≡ w
      array_name = let z : f ≡ f + 0 = omega arith in ap (λ x. (cell_at ds x).name) z ∙ ap (λ (c : Cell). c.name) (array_cell 0 array_some)

      -- and its label is written
      pub array_labelled : (l : Label) × ((cell_at ds f).label ≡ Some l)
      array_labelled =
          let z : f ≡ f + 0 = omega arith in
          by (array_at ds w f n e).decl.label (array_at ds w f n e).decl.length (array_at ds w f n e).array shaped
          (ap (λ x. (cell_at ds x).label) z ∙ ap (λ (c : Cell). c.label) (array_cell 0 array_some))
        where
          by : (l : Option Label) (m : Option ℕ) → m ≡ Some n → IsShaped l m → (cell_at ds f).label ≡ l → (k : Label) × ((cell_at ds f).label ≡ Some k)
          by l None q i h = absurd (none-some n q)
          by None (Some m) q i h = absurd i
          by (Some k) (Some m) q i h = (k, h)
