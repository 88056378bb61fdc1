-- A variable is told by its name and its place.
use Rattle.std.proofs.Common.{◌≡◌, ℕ, zero, suc, ◌+◌, ◌-◌, ◌<◌, ◌≤◌, ◌⊎◌, inl, inr, List, [], ◌∷◌, ◌++◌, length, refl, sym, ap, ◌∙◌, subst, arith, get_or}
use Rattle.std.proofs.Common.{Option, Some, None}
use Rattle.std.specs.Prelude.{map}
use Rattle.std.proofs.lemmas.Bool.{cases_lt}
use Rattle.std.proofs.lemmas.List.{length-append, get_or_append_left, get_or-append_right}
use Rattle.label_lattice.specs.declared.label.Label.{Label}
use Rattle.label_lattice.specs.Order.{AllDiffer}
use Rattle.mit_syntax.specs.Declarations.{Declaration, Cell, cells_of, cells, cell_at, variables, elements_in, size_in, length_in}
use Rattle.mit_syntax.specs.Program.{Syntax}
use Rattle.mit_syntax.specs.Valid.{IsValid}
use Rattle.mit_syntax.proofs.Numbers.{length-elements, length-cells_of, elements_at}

abbrev nowhere : Cell
nowhere = record { name = []; label = None; place = None }

some_same : (a b : ℕ) → Some a ≡ Some b → a ≡ b
some_same a b e = cc

one_name : (w : List ℕ) (l : Option Label) (o : Option ℕ) (x : ℕ) → x < length (cells_of w l o) → (get_or (cells_of w l o) x nowhere).name ≡ w
one_name w l None zero h = refl
one_name w l None (suc x) h = absurd (omega (arith, h))
one_name w l (Some n) x h = ap (λ c. c.name) (elements_at w l 0 n x nowhere (omega (arith, h, length-elements w l 0 n)))

one_place : (w : List ℕ) (l : Option Label) (o : Option ℕ) (x y : ℕ) → x < length (cells_of w l o) → y < length (cells_of w l o) →
    (get_or (cells_of w l o) x nowhere).place ≡ (get_or (cells_of w l o) y nowhere).place → x ≡ y
one_place w l None x y h k e = omega (arith, h, k)
one_place w l (Some n) x y h k e =
    let a = ap (λ c. c.place) (elements_at w l 0 n x nowhere (omega (arith, h, length-elements w l 0 n))) in
    let b = ap (λ c. c.place) (elements_at w l 0 n y nowhere (omega (arith, k, length-elements w l 0 n))) in
    omega (arith, some_same (0 + x) (0 + y) (sym a ∙ (e ∙ b)))

abbrev pub names : List Declaration → List (List ℕ)
names ds = map (λ d. d.0) ds

-- no variable has a name that is not declared
not_named : (ds : List Declaration) (w : List ℕ) → ((j : ℕ) (d : List ℕ) → j < length (names ds) → get_or (names ds) j d ≡ w → ⊥) →
    (y : ℕ) → y < length (cells ds) → (get_or (cells ds) y nowhere).name ≡ w → ⊥
not_named [] w without y h e = absurd (omega (arith, h))
not_named (d ∷ ds) w without y h e =
    by (cases_lt y (length (cells_of d.0 d.1.label d.1.length))) (not_named ds w (λ j x l q. without (suc j) x (omega (arith, l)) q))
  where
    head : List Cell
    head = cells_of d.0 d.1.label d.1.length

    by : (y < length head) ⊎ (length head ≤ y) → ((z : ℕ) → z < length (cells ds) → (get_or (cells ds) z nowhere).name ≡ w → ⊥) → ⊥
    by (inl l) rest = without 0 [] (omega arith) (sym (one_name d.0 d.1.label d.1.length y l)
        ∙ (ap (λ c. c.name) (sym (get_or_append_left head (cells ds) nowhere y l)) ∙ e))
    by (inr l) rest =
        let both = length-append head (cells ds) in
        rest (y - length head) (omega (arith, h, l, both)) (ap (λ c. c.name) (sym (get_or-append_right head (cells ds) (length head) y nowhere refl l)) ∙ e)

-- a variable is told by its name and its place
pub same_cell : (ds : List Declaration) → AllDiffer (names ds) → (x y : ℕ) → x < length (cells ds) → y < length (cells ds) →
    (cell_at ds x).name ≡ (cell_at ds y).name → (cell_at ds x).place ≡ (cell_at ds y).place → x ≡ y
same_cell [] differ x y h k e f = absurd (omega (arith, h))
same_cell (d ∷ ds) differ x y h k e f =
    by (cases_lt x (length head)) (cases_lt y (length head)) (same_cell ds (λ i j z l m q. differ (suc i) (suc j) z (omega (arith, l)) (omega (arith, m)) q))
  where
    head : List Cell
    head = cells_of d.0 d.1.label d.1.length

    both : length (head ++ cells ds) ≡ length head + length (cells ds)
    both = length-append head (cells ds)

    apart : (j : ℕ) (z : List ℕ) → j < length (names ds) → get_or (names ds) j z ≡ d.0 → ⊥
    apart j z l q = differ 0 (suc j) z (omega arith) (omega (arith, l)) (sym q)

    left : (z : ℕ) → z < length head → get_or (head ++ cells ds) z nowhere ≡ get_or head z nowhere
    left z l = get_or_append_left head (cells ds) nowhere z l

    right : (z : ℕ) → length head ≤ z → get_or (head ++ cells ds) z nowhere ≡ get_or (cells ds) (z - length head) nowhere
    right z l = get_or-append_right head (cells ds) (length head) z nowhere refl l

    by : (x < length head) ⊎ (length head ≤ x) → (y < length head) ⊎ (length head ≤ y) →
        ((a b : ℕ) → a < length (cells ds) → b < length (cells ds) → (cell_at ds a).name ≡ (cell_at ds b).name
        → (cell_at ds a).place ≡ (cell_at ds b).place → a ≡ b) → x ≡ y
    by (inl l) (inl m) rest =
        one_place d.0 d.1.label d.1.length x y l m (ap (λ c. c.place) (sym (left x l)) ∙ (f ∙ ap (λ c. c.place) (left y m)))
    by (inl l) (inr m) rest =
        absurd
        (not_named ds d.0 apart (y - length head) (omega (arith, k, m, both))
        (ap (λ c. c.name) (sym (right y m)) ∙ (sym e ∙ (ap (λ c. c.name) (left x l) ∙ one_name d.0 d.1.label d.1.length x l))))
    by (inr l) (inl m) rest =
        absurd
        (not_named ds d.0 apart (x - length head) (omega (arith, h, l, both))
        (ap (λ c. c.name) (sym (right x l)) ∙ (e ∙ (ap (λ c. c.name) (left y m) ∙ one_name d.0 d.1.label d.1.length y m))))
    by (inr l) (inr m) rest =
        let same : x - length head ≡ y - length head =
        rest (x - length head) (y - length head) (omega (arith, h, l, both)) (omega (arith, k, m, both))
        (ap (λ c. c.name) (sym (right x l)) ∙ (e ∙ ap (λ c. c.name) (right y m)))
        (ap (λ c. c.place) (sym (right x l)) ∙ (f ∙ ap (λ c. c.place) (right y m))) in
        omega (arith, same, l, m)

-- a variable's name is that of a declaration
pub cell_named : (P : List ℕ → Type 0) (ds : List Declaration) → ((j : ℕ) (d : List ℕ) → j < length (names ds) → P (get_or (names ds) j d)) →
    (x : ℕ) → x < length (cells ds) → P (cell_at ds x).name
cell_named P [] each x h = absurd (omega (arith, h))
cell_named P (d ∷ ds) each x h = by (cases_lt x (length head)) (cell_named P ds (λ j z l. each (suc j) z (omega (arith, l))))
  where
    head : List Cell
    head = cells_of d.0 d.1.label d.1.length

    by : (x < length head) ⊎ (length head ≤ x) → ((z : ℕ) → z < length (cells ds) → P (cell_at ds z).name) → P (get_or (head ++ cells ds) x nowhere).name
    by (inl l) rest =
        subst P (sym (ap (λ c. c.name) (get_or_append_left head (cells ds) nowhere x l) ∙ one_name d.0 d.1.label d.1.length x l)) (each 0 [] (omega arith))
    by (inr l) rest =
        let both = length-append head (cells ds) in
        subst P (ap (λ c. c.name) (sym (get_or-append_right head (cells ds) (length head) x nowhere refl l)))
        (rest (x - length head) (omega (arith, h, l, both)))

one_placed : (w : List ℕ) (l : Option Label) (o : Option ℕ) (x k : ℕ) → x < length (cells_of w l o) → (get_or (cells_of w l o) x nowhere).place ≡ Some k → k ≤ x
one_placed w l None zero k h e = absurd cc
one_placed w l None (suc x) k h e = absurd (omega (arith, h))
one_placed w l (Some n) x k h e =
    let a = ap (λ c. c.place) (elements_at w l 0 n x nowhere (omega (arith, h, length-elements w l 0 n))) in
    omega (arith, some_same (0 + x) k (sym a ∙ e))

-- an element's place is at most its number
pub placed : (ds : List Declaration) (x k : ℕ) → x < length (cells ds) → (cell_at ds x).place ≡ Some k → k ≤ x
placed [] x k h e = absurd (omega (arith, h))
placed (d ∷ ds) x k h e = by (cases_lt x (length head)) (λ z. placed ds z k)
  where
    head : List Cell
    head = cells_of d.0 d.1.label d.1.length

    by : (x < length head) ⊎ (length head ≤ x) → ((z : ℕ) → z < length (cells ds) → (cell_at ds z).place ≡ Some k → k ≤ z) → k ≤ x
    by (inl l) rest = one_placed d.0 d.1.label d.1.length x k l (ap (λ c. c.place) (sym (get_or_append_left head (cells ds) nowhere x l)) ∙ e)
    by (inr l) rest =
        let both = length-append head (cells ds) in
        let r = rest (x - length head) (omega (arith, h, l, both)) (ap (λ c. c.place) (sym (get_or-append_right head (cells ds) (length head) x nowhere refl l))
        ∙ e) in
        omega (arith, r)

size_few : (n : Option ℕ) → size_in n ≤ 1 + length_in n
size_few None = omega arith
size_few (Some n) = omega arith

variables_few : (ds : List Declaration) → variables ds ≤ length ds + elements_in ds
variables_few [] = omega arith
variables_few (d ∷ ds) =
    let a = variables_few ds in
    let b = size_few d.1.length in
    let n = length-cells_of d.0 d.1.label d.1.length in
    let l = length-append (cells_of d.0 d.1.label d.1.length) (cells ds) in
    omega (arith, a, b, n, l)

pub few_variables : (s : Syntax) → IsValid s → variables s.declarations ≤ 3072
few_variables s v =
    let a = variables_few s.declarations in
    let b : length s.declarations ≤ 1024 = v.few.count in
    let c : elements_in s.declarations ≤ 2048 = v.few.elements in
    omega (arith, a, b, c)
