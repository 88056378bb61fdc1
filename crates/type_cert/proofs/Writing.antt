-- One more line is written.
use Rattle.std.proofs.Common.{◌≡◌, ℕ, ◌+◌, ◌<◌, ◌≤◌, sym, ap, ◌∙◌, subst, List, ◌∷◌, ◌++◌, length, append_assoc, append-nil, drop, get_or, arith}
use Rattle.std.specs.Prelude.{Option, None, Some, slice_get}
use Rattle.std.proofs.lemmas.List.{drop_more, drop_all}
use Rattle.std.proofs.lemmas.Option.{slice_get_within, get_or_from_slice_get}
use Rattle.label_lattice.specs.declared.label.Label.{Label}
use Rattle.label_lattice.specs.Order.{Order}
use Rattle.mit_syntax.specs.Declarations.{Declaration, size_in, size_of, length_in, elements_in}
use Rattle.mit_syntax.specs.Program.{Syntax, plan_of}
use Rattle.mit_syntax.specs.Valid.{IsValid}
use Rattle.timing_types.specs.Labelling.{Labelling, IsLabelling, variable_of, marks_of, level_of}
use Rattle.timing_types.specs.Labelled.{LabelledProgram, order_of, labels_of, placed_of}
use Rattle.label_infer.specs.Given.{AllFrom}
use Rattle.label_infer.proofs.Ranges.{joins_below}
use Rattle.type_cert.specs.declared.line.Line.{Line}
use Rattle.type_cert.specs.Places.{label}
use Rattle.type_cert.specs.Demands.{HasLabels}
use Rattle.type_cert.specs.Text.{line_text, lines_text, variable_text, variables_text}
use Rattle.type_cert.specs.Derived.{derived, declared_labels}
use Rattle.type_cert.proofs.Complete.{derived_below}

-- how many variables the declarations have at most
abbrev pub room : List Declaration → ℕ
room ds = length ds + elements_in ds

size_room : (v : Option ℕ) → size_in v ≤ 1 + length_in v
size_room None = omega arith
size_room (Some n) = omega arith

next_drop : (ds : List Declaration) (k : ℕ) (d : Declaration) → slice_get ds k ≡ Some d → drop k ds ≡ d ∷ drop (k + 1) ds
next_drop ds k d h = drop_more ds k d (slice_get_within ds k d h) ∙ ap (λ z. z ∷ drop (k + 1) ds) (get_or_from_slice_get ds k d d h)

pub next_room : (ds : List Declaration) (k first size most : ℕ) (d : Declaration) → slice_get ds k ≡ Some d → size ≡ size_of d.1
    → first + room (drop k ds) ≤ most → first + size + room (drop (k + 1) ds) ≤ most
next_room ds k first size most d h es r =
    let e = ap room (next_drop ds k d h) in
    let m = size_room d.1.length in
    omega (arith, e, m, es, r)

pub next_variable : (o : Order) (ds : List Declaration) (g : ℕ → ℕ) (out new all : List ℕ) (k first size : ℕ) (d : Declaration) (l : Label)
    → slice_get ds k ≡ Some d → l.number ≡ g first → size ≡ size_of d.1 →
    new ≡ out ++ variable_text o d.0 l → all ≡ out ++ variables_text o (drop k ds) (declared_labels g first (drop k ds)) →
    all ≡ new ++ variables_text o (drop (k + 1) ds) (declared_labels g (first + size) (drop (k + 1) ds))
next_variable o ds g out new all k first size d l h hl es en so =
    let r = drop (k + 1) ds in
    so ∙ ap (λ z. out ++ variables_text o z (declared_labels g first z)) (next_drop ds k d h)
    ∙ ap (λ z. out ++ (variable_text o d.0 z ++ variables_text o r (declared_labels g (first + size_of d.1) r))) (sym (ap label hl))
    ∙ ap (λ z. out ++ (variable_text o d.0 l ++ variables_text o r (declared_labels g (first + z) r))) (sym es)
    ∙ sym (append_assoc out (variable_text o d.0 l) (variables_text o r (declared_labels g (first + size) r)))
    ∙ ap (λ z. z ++ variables_text o r (declared_labels g (first + size) r)) (sym en)

pub last_variable : (o : Order) (ds : List Declaration) (g : ℕ → ℕ) (out all : List ℕ) (k first : ℕ) → length ds ≤ k
    → all ≡ out ++ variables_text o (drop k ds) (declared_labels g first (drop k ds)) → out ≡ all
last_variable o ds g out all k first h so = sym (so ∙ ap (λ z. out ++ variables_text o z (declared_labels g first z)) (drop_all k ds h) ∙ append-nil out)

pub next_line : (o : Order) (xs : List Line) (out new all : List ℕ) (k : ℕ) (x : Line) → k < length xs → x ≡ get_or xs k x → new ≡ out ++ line_text o k x →
    all ≡ out ++ lines_text o k (drop k xs) → all ≡ new ++ lines_text o (k + 1) (drop (k + 1) xs)
next_line o xs out new all k x h at en so =
    so ∙ ap (λ z. out ++ lines_text o k z) (drop_more xs k x h ∙ ap (λ z. z ∷ drop (k + 1) xs) (sym at))
    ∙ sym (append_assoc out (line_text o k x) (lines_text o (k + 1) (drop (k + 1) xs)))
    ∙ ap (λ z. z ++ lines_text o (k + 1) (drop (k + 1) xs)) (sym en)

pub last_line : (o : Order) (xs : List Line) (out all : List ℕ) (k : ℕ) → length xs ≤ k → all ≡ out ++ lines_text o k (drop k xs) → out ≡ all
last_line o xs out all k h so = sym (so ∙ ap (λ z. out ++ lines_text o k z) (drop_all k xs h) ∙ append-nil out)

-- the labels of the lines that a labelling gives are labels of its lattice
pub lines_below : (s : Syntax) (l : Labelling) (xs : List Line) → IsValid s → IsLabelling s l →
    (let q : LabelledProgram = record { program = s; labels = l } in
    xs ≡ derived (order_of q) (labels_of q) (placed_of q) (order_of q).bottom (order_of q).bottom) →
    AllFrom (λ (i : ℕ) (x : Line). HasLabels s.order.size x) 0 xs
lines_below s l xs valid keeps is =
    let q : LabelledProgram = record { program = s; labels = l } in
    let low = valid.order.table.some in
    subst (λ z. AllFrom (λ (i : ℕ) (x : Line). HasLabels s.order.size x) 0 z) (sym is)
    (derived_below (order_of q) (variable_of s.order l) (marks_of s.order l) (level_of s.order l) s.order.size low (joins_below s.order valid.order)
    keeps.variables_below keeps.commands_below keeps.levels_below (plan_of s) 0 s.order.bottom s.order.bottom low low)
