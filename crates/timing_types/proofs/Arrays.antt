-- Each array of a program has one label.
use Rattle.std.proofs.Common.{◌≡◌, ℕ, ◌+◌, ◌<◌, sym, ◌∙◌, subst, List, arith, Option, Some}
use Rattle.label_lattice.specs.declared.label.Label.{Label}
use Rattle.mit_syntax.specs.Expression.{Expression, Number, Variable, Binary, Element}
use Rattle.mit_syntax.specs.Todo.{Marks, Done, Skip, Assign, Put, Sleep, If, While, Mitigate}
use Rattle.mit_syntax.specs.Plan.{Plan, count}
use Rattle.mit_syntax.specs.Program.{Syntax, plan_of}
use Rattle.mit_syntax.specs.Declarations.{Declaration, variables, cell_at}
use Rattle.mit_syntax.specs.Valid.{AreShaped, IsDeclaredArray, IsKnown, AreKnown, IsValid}
use Rattle.mit_syntax.proofs.Facts.{array_below, array_label, array_some, array_labelled}
use Rattle.timing_types.specs.Arrays.{IsArray, HasArrays, ArraysIn}
use Rattle.timing_types.specs.Placed.{bare, labelled}
use Rattle.timing_types.specs.Labelling.{Labelling, variable_of, IsKept, IsLabelling}

equal : (o o' : Option Label) (x y : ℕ) → o ≡ o' → (l : Label) × (o' ≡ Some l) → IsKept o x → IsKept o' y → x ≡ y
equal o o' x y h l kx ky =
    let a : x ≡ l.0.number = subst (λ z. IsKept z x) (h ∙ l.1) kx in
    let b : y ≡ l.0.number = subst (λ z. IsKept z y) l.1 ky in
    a ∙ sym b

module _ (ds : List Declaration) (g : ℕ → ℕ) (shaped : AreShaped ds) (kept : (x : ℕ) → x < variables ds → IsKept (cell_at ds x).label (g x)) where
  pub array_of : (f k : ℕ) → IsDeclaredArray ds f k → IsArray g f k
  array_of f k h =
      let some = array_some ds h.0 f k h.1 shaped in
      let below = array_below ds h.0 f k h.1 in
      let same : (j : ℕ) → j < k → g (f + j) ≡ g f = λ j l.
      equal (cell_at ds (f + j)).label (cell_at ds f).label (g (f + j)) (g f) (array_label ds h.0 f k h.1 j l) (array_labelled ds h.0 f k h.1 shaped)
      (kept (f + j) (omega (arith, l, below))) (kept f (omega (arith, below, some))) in
      record { some = some; same = same }

  has_arrays : (e : Expression) → IsKnown ds e → HasArrays g e
  has_arrays (Number x) h = tt
  has_arrays (Variable x) h = tt
  has_arrays (Binary o l r) h = (has_arrays l h.0, has_arrays r h.1)
  has_arrays (Element f k i) h = (array_of f k h.0, has_arrays i h.1)

  arrays_in : (n : ℕ) (p : Plan) → AreKnown n ds p → ArraysIn g p
  arrays_in n Done h = tt
  arrays_in n (Skip w p) h = arrays_in n p h.1
  arrays_in n (Assign w x e p) h = (has_arrays e h.2, arrays_in n p h.3)
  arrays_in n (Put w f k j e p) h = ((array_of f k h.1, has_arrays j h.2, has_arrays e h.3), arrays_in n p h.4)
  arrays_in n (Sleep w e p) h = (has_arrays e h.1, arrays_in n p h.2)
  arrays_in n (If w e a b p) h = (has_arrays e h.1, arrays_in n a h.4, arrays_in n b h.5, arrays_in n p h.6)
  arrays_in n (While w e c p) h = (has_arrays e h.1, arrays_in n c h.3, arrays_in n p h.4)
  arrays_in n (Mitigate w k l e c p) h = (has_arrays e h.2, arrays_in n c h.4, arrays_in n p h.5)

-- a program that was read has them, under each labelling
pub valid_arrays : (s : Syntax) (l : Labelling) → IsValid s → IsLabelling s l → ArraysIn (variable_of s.order l) (plan_of s)
valid_arrays s l valid kept = arrays_in s.declarations (variable_of s.order l) valid.arrays kept.declared s.order.size (plan_of s) valid.known

-- labels of commands leave them
module _ (g : ℕ → ℕ) (ms : ℕ → Marks) (ls : ℕ → ℕ) where
  pub labelled_arrays : (p : Plan) (i : ℕ) → ArraysIn g p → ArraysIn g (bare (labelled ms ls p i))
  labelled_arrays Done i h = tt
  labelled_arrays (Skip w p) i h = labelled_arrays p (i + 1) h
  labelled_arrays (Assign w x e p) i h = (h.0, labelled_arrays p (i + 1) h.1)
  labelled_arrays (Put w f k j e p) i h = (h.0, labelled_arrays p (i + 1) h.1)
  labelled_arrays (Sleep w e p) i h = (h.0, labelled_arrays p (i + 1) h.1)
  labelled_arrays (If w e a b p) i h =
      (h.0, labelled_arrays a (i + 1) h.1, labelled_arrays b (i + 1 + count a) h.2, labelled_arrays p (i + 1 + count a + count b) h.3)
  labelled_arrays (While w e c p) i h = (h.0, labelled_arrays c (i + 1) h.1, labelled_arrays p (i + 1 + count c) h.2)
  labelled_arrays (Mitigate w k l e c p) i h = (h.0, labelled_arrays c (i + 1) h.1, labelled_arrays p (i + 1 + count c) h.2)
