-- What is declared of a variable, once the labels of a labelling are written.
use Rattle.std.proofs.Common.{◌≡◌, refl, sym, ap, ◌∙◌, subst, ℕ, zero, suc, ◌+◌, ◌-◌, ◌<◌, ◌≤◌, arith, List, [], ◌∷◌, length-append, Option, None, Some, ⊎_elim}
use Rattle.std.specs.Prelude.{slice_get}
use Rattle.std.proofs.lemmas.Bool.{cases_lt}
use Rattle.std.proofs.lemmas.Option.{none-some, same_Some, slice_get_within, get_or_from_slice_get}
use Rattle.label_lattice.specs.declared.label.Label.{Label}
use Rattle.label_lattice.specs.Order.{Order}
use Rattle.mit_syntax.specs.Declarations.{Declaration, Cell, cells_of, cells, cell_at, size_in, size_of, variables, first_of}
use Rattle.mit_syntax.specs.Valid.{IsShaped, AreShaped}
use Rattle.mit_syntax.proofs.Facts.{first_below}
use Rattle.mit_syntax.proofs.Numbers.{cell_in, length-cells_of}
use Rattle.timing_types.specs.Labelling.{Labelling, IsKept, variable_of}
use Rattle.label_write.specs.Written.{as_label, written_declarations}
use Rattle.label_write.proofs.Validity.{with_label}

-- the declaration of a variable, and the variable's place in it
record Owner (ds : List Declaration) (x : ℕ) : Type 0 where
  pub place : ℕ
  pub decl : Declaration
  pub inner : ℕ
  pub there : slice_get ds place ≡ Some decl
  pub within : inner < size_of decl.1
  pub is : x ≡ first_of ds place + inner

owner : (ds : List Declaration) (x : ℕ) → x < variables ds → Owner ds x
owner [] x h = absurd (omega (arith, h))
owner (d ∷ ds) x h =
    let n = length-cells_of d.0 d.1.label d.1.length in
    let a = length-append (cells_of d.0 d.1.label d.1.length) (cells ds) in
    ⊎_elim
    (λ (b : x < size_of d.1). record { place = 0; decl = d; inner = x; there = refl; within = b; is = omega arith })
    (λ (b : size_of d.1 ≤ x).
    let r = owner ds (x - size_of d.1) (omega (arith, h, n, a, b)) in
    let e = r.is in
    record { place = suc r.place; decl = r.decl; inner = r.inner; there = r.there; within = r.within; is = omega (arith, e, b) })
    (cases_lt x (size_of d.1))

module _ (o : Order) (l : Labelling) where
  pub same_variables : (ds : List Declaration) (x : ℕ) → variables (written_declarations o l ds x) ≡ variables ds
  same_variables [] x = refl
  same_variables (d ∷ ds) x =
      let r = same_variables ds (x + size_of d.1) in
      let n = length-cells_of d.0 d.1.label d.1.length in
      let a = length-append (cells_of d.0 d.1.label d.1.length) (cells ds) in
      let m = length-cells_of d.0 (Some (as_label (variable_of o l x))) d.1.length in
      let b = length-append (cells_of d.0 (Some (as_label (variable_of o l x))) d.1.length) (cells (written_declarations o l ds (x + size_of d.1))) in
      omega (arith, r, n, a, m, b)

  same_first : (ds : List Declaration) (x k : ℕ) → first_of (written_declarations o l ds x) k ≡ first_of ds k
  same_first ds x zero = refl
  same_first [] x (suc k) = refl
  same_first (d ∷ ds) x (suc k) = ap (λ n. size_of d.1 + n) (same_first ds (x + size_of d.1) k)

  written_at : (ds : List Declaration) (x k : ℕ) (d : Declaration) → slice_get ds k ≡ Some d
      → slice_get (written_declarations o l ds x) k ≡ Some (d.0, with_label o l d (x + first_of ds k))
  written_at [] x k d e = absurd (none-some d e)
  written_at (y ∷ ds) x zero d e =
      let same : y ≡ d = same_Some y d e in
      let flat : x ≡ x + 0 = omega arith in
      ap (λ (z : Declaration). Some (z.0, with_label o l z x)) same ∙ ap (λ n. Some (d.0, with_label o l d n)) flat
  written_at (y ∷ ds) x (suc k) d e =
      let more : x + size_of y.1 + first_of ds k ≡ x + (size_of y.1 + first_of ds k) = omega arith in
      written_at ds (x + size_of y.1) k d e ∙ ap (λ n. Some (d.0, with_label o l d n)) more

  -- all variables of a declaration have one label
  uniform : (first i : ℕ) (a : Option Label) (n : Option ℕ) → IsShaped a n → i < size_in n → ((j : ℕ) → j < size_in n → IsKept a (variable_of o l (first + j)))
      → variable_of o l first ≡ variable_of o l (first + i)
  uniform first i a None s h k = let e : first ≡ first + i = omega (arith, h) in ap (λ x. variable_of o l x) e
  uniform first i None (Some n) s h k = absurd s
  uniform first i (Some a) (Some n) s h k = let e : first ≡ first + 0 = omega arith in ap (λ x. variable_of o l x) e ∙ k 0 s ∙ sym (k i h)

  module _ (ds : List Declaration) (kept : (x : ℕ) → x < variables ds → IsKept (cell_at ds x).label (variable_of o l x)) (shaped : AreShaped ds) where
    -- so each variable's own label is written
    pub label_written : (x : ℕ) → x < variables ds → (cell_at (written_declarations o l ds 0) x).label ≡ Some (as_label (variable_of o l x))
    label_written x h =
        let w = owner ds x h in
        let d = w.decl in
        let k = w.place in
        let i = w.inner in
        let f : ℕ = first_of ds k in
        let shape : IsShaped d.1.label d.1.length =
        subst (λ (z : Declaration). IsShaped z.1.label z.1.length) (get_or_from_slice_get ds k d d w.there) (shaped k d (slice_get_within ds k d w.there)) in
        let below = first_below ds k d w.there in
        let each : (j : ℕ) → j < size_of d.1 → IsKept d.1.label (variable_of o l (first_of ds k + j)) =
        λ j b. subst (λ (z : Cell). IsKept z.label (variable_of o l (first_of ds k + j))) (cell_in ds k j d _ w.there b)
        (kept (first_of ds k + j) (omega (arith, below, b))) in
        ap (λ y. (cell_at (written_declarations o l ds 0) y).label) (w.is ∙ ap (λ y. y + i) (sym (same_first ds 0 k)))
        ∙ ap (λ (z : Cell). z.label) (cell_in (written_declarations o l ds 0) k i (
          d.0,
          with_label o l d (0 + first_of ds k),
        ) _ (written_at ds 0 k d w.there) w.within)
        ∙ ap (λ z. Some (as_label z))
        (ap (λ y. variable_of o l y) (flat (first_of ds k)) ∙ uniform (first_of ds k) i d.1.label d.1.length shape w.within each
        ∙ ap (λ y. variable_of o l y) (sym w.is))
      where
        flat : (n : ℕ) → 0 + n ≡ n
        flat n = omega arith
