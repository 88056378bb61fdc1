-- The numbers of variables.
use Rattle.std.proofs.Common.{◌≡◌, refl, sym, ap, ◌∙◌, subst, ℕ, zero, suc, ◌+◌, ◌-◌, ◌<◌, ◌≤◌, List, [], ◌∷◌, length, get_or, Option, None, Some, arith}
use Rattle.std.proofs.Common.{◌++◌, length-append, ⊎_elim}
use Rattle.std.specs.Prelude.{slice_get}
use Rattle.std.proofs.lemmas.Grind.{get_or_default_zero}
use Rattle.std.proofs.lemmas.List.{get_or_append_left, get_or-append-add, get_or_push}
use Rattle.std.proofs.lemmas.Bool.{cases_lt}
use Rattle.std.proofs.lemmas.Option.{none-some, same_Some}
use Rattle.label_lattice.specs.declared.label.Label.{Label}
use Rattle.mit_syntax.specs.Declarations.{Declaration, Cell, elements, cells_of, cells, cell_at, cell_of, place_in, size_in, size_of, length_in, elements_in}
use Rattle.mit_syntax.specs.Declarations.{variables, first_of, AreFew}

pub length-elements : (w : List ℕ) (l : Option Label) (i n : ℕ) → length (elements w l i n) ≡ n
length-elements w l i zero = refl
length-elements w l i (suc n) = ap suc (length-elements w l (i + 1) n)

pub length-cells_of : (w : List ℕ) (l : Option Label) (n : Option ℕ) → length (cells_of w l n) ≡ size_in n
length-cells_of w l None = refl
length-cells_of w l (Some n) = length-elements w l 0 n

pub elements_at : (w : List ℕ) (l : Option Label) (i n k : ℕ) (c : Cell) → k < n
    → get_or (elements w l i n) k c ≡ record { name = w; label = l; place = Some (i + k) }
elements_at w l i zero k c h = absurd (omega (arith, h))
elements_at w l i (suc n) zero c h = let e : i ≡ i + 0 = omega arith in ap (λ j. record { name = w; label = l; place = Some j }) e
elements_at w l i (suc n) (suc k) c h =
    let e : (i + 1) + k ≡ i + suc k = omega arith in
    elements_at w l (i + 1) n k c (omega (arith, h)) ∙ ap (λ j. record { name = w; label = l; place = Some j }) e

pub cells_at : (w : List ℕ) (l : Option Label) (n : Option ℕ) (k : ℕ) (c : Cell) → k < size_in n
    → get_or (cells_of w l n) k c ≡ record { name = w; label = l; place = place_in n k }
cells_at w l None zero c h = refl
cells_at w l None (suc k) c h = absurd (omega (arith, h))
cells_at w l (Some n) k c h = let e : 0 + k ≡ k = omega arith in elements_at w l 0 n k c h ∙ ap (λ j. record { name = w; label = l; place = Some j }) e

pub first_more : (ds : List Declaration) (k : ℕ) (d : Declaration) → slice_get ds k ≡ Some d → first_of ds (k + 1) ≡ first_of ds k + size_of d.1
first_more [] k d e = absurd (none-some d e)
first_more (x ∷ ds) zero d e = let same : x ≡ d = same_Some x d e in ap (λ (y : Declaration). first_of (y ∷ ds) (0 + 1)) same ∙ flat (size_of d.1)
  where
    flat : (n : ℕ) → n + 0 ≡ 0 + n
    flat n = omega arith
first_more (x ∷ ds) (suc k) d e =
    let r = first_more ds k d e in
    let s : first_of (x ∷ ds) (suc k + 1) ≡ size_of x.1 + first_of ds (k + 1) = ap (λ n. first_of (x ∷ ds) n) (shifted k) in
    omega (arith, r, s)
  where
    shifted : (n : ℕ) → suc n + 1 ≡ suc (n + 1)
    shifted n = omega arith

size_bound : (n : Option ℕ) → size_in n ≤ 1 + length_in n
size_bound None = omega arith
size_bound (Some n) = omega arith

pub first_bound : (ds : List Declaration) (k : ℕ) → first_of ds k ≤ k + elements_in ds
first_bound ds zero = omega arith
first_bound [] (suc k) = omega arith
first_bound (d ∷ ds) (suc k) = let r = first_bound ds k in let s = size_bound d.1.length in omega (arith, r, s)

pub first_all : (ds : List Declaration) → first_of ds (length ds) ≡ variables ds
first_all [] = refl
first_all (d ∷ ds) =
    let r = first_all ds in
    let s = length-cells_of d.0 d.1.label d.1.length in
    let a = length-append (cells_of d.0 d.1.label d.1.length) (cells ds) in
    omega (arith, r, s, a)

pub few_cells : (ds : List Declaration) → AreFew ds → variables ds ≤ 3072
few_cells ds few =
    let b = first_bound ds (length ds) in
    let a = first_all ds in
    let c : length ds ≤ 1024 = few.count in
    let e : elements_in ds ≤ 2048 = few.elements in
    omega (arith, b, a, c, e)

pub cell_in : (ds : List Declaration) (k i : ℕ) (d : Declaration) (c : Cell) → slice_get ds k ≡ Some d → i < size_of d.1
    → get_or (cells ds) (first_of ds k + i) c ≡ cell_of d.0 d.1 i
cell_in [] k i d c e h = absurd (none-some d e)
cell_in (x ∷ ds) zero i d c e h =
    let same : x ≡ d = same_Some x d e in
    subst (λ (y : Declaration). get_or (cells (y ∷ ds)) (0 + i) c ≡ cell_of d.0 d.1 i) (sym same)
    (ap (λ j. get_or (cells (d ∷ ds)) j c) (flat i)
    ∙ get_or_append_left (cells_of d.0 d.1.label d.1.length) (cells ds) c i (subst (λ n. i < n) (sym (length-cells_of d.0 d.1.label d.1.length)) h)
    ∙ cells_at d.0 d.1.label d.1.length i c h)
  where
    flat : (n : ℕ) → 0 + n ≡ n
    flat n = omega arith
cell_in (x ∷ ds) (suc k) i d c e h =
    let n = length-cells_of x.0 x.1.label x.1.length in
    let p : size_of x.1 + first_of ds k + i ≡ length (cells_of x.0 x.1.label x.1.length) + (first_of ds k + i) = omega (arith, n) in
    ap (λ j. get_or (cells (x ∷ ds)) j c) p
    ∙ get_or-append-add (cells_of x.0 x.1.label x.1.length) (cells ds) (first_of ds k + i) c
    ∙ cell_in ds k i d c e h

-- what is read at a place of a list of numbers
pub read_at : (xs : List ℕ) (k r : ℕ) → k < length xs → r ≡ get_or xs k r → r ≡ get_or xs k 0
read_at xs k r l e = e ∙ get_or_default_zero xs k r l

-- the table, one number longer
pub table_push : (ds : List Declaration) (old new : List ℕ) (k v : ℕ) → new ≡ old ++ v ∷ [] → length old ≡ k → v ≡ first_of ds k
    → ((j : ℕ) → j < k → get_or old j 0 ≡ first_of ds j) → (length new ≡ k + 1) × ((j : ℕ) → j < k + 1 → get_or new j 0 ≡ first_of ds j)
table_push ds old new k v e fit is before =
    let len = length-append old (v ∷ []) in (
      omega (arith, ap length e, len, fit),
      λ j h. ap (λ z. get_or z j 0) e
          ∙ ⊎_elim
          (λ (i : j < k). get_or_append_left old (v ∷ []) 0 j (omega (arith, i, fit)) ∙ before j i)
          (λ (i : k ≤ j). let same : k ≡ j = omega (arith, i, h) in get_or_push old v 0 j (fit ∙ same) ∙ is ∙ ap (first_of ds) same)
          (cases_lt j k),
    )

pub some_declared : (ds : List Declaration) (x : ℕ) → x < variables ds → 0 < length ds
some_declared [] x h = absurd (omega (arith, h))
some_declared (d ∷ ds) x h = omega arith

-- the variable with a number between two first ones
pub owned : (ds : List Declaration) (k x : ℕ) (d : Declaration) → slice_get ds k ≡ Some d → first_of ds k ≤ x → x < first_of ds (k + 1)
    → cell_at ds x ≡ cell_of d.0 d.1 (x - first_of ds k)
owned ds k x d e l h =
    let m = first_more ds k d e in
    let i : x - first_of ds k < size_of d.1 = omega (arith, m, l, h) in
    let s : x ≡ first_of ds k + (x - first_of ds k) = omega (arith, l) in
    ap (cell_at ds) s ∙ cell_in ds k (x - first_of ds k) d _ e i
