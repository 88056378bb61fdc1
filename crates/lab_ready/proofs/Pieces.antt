-- Lines that are put together, and what a start has.
use Rattle.std.proofs.Common.{◌≡◌, ◌<◌, ◌≤◌, ◌∙◌, refl, ap, ℕ, zero, suc, List, [], ◌∷◌, ◌++◌, append_assoc, length, get_or, map, arith}
use Rattle.label_lattice.specs.Order.{Order, name_of}
use Rattle.mit_syntax.specs.Declarations.{cell_at}
use Rattle.mit_syntax.specs.Program.{Syntax}
use Rattle.timing_types.specs.Labelling.{Labelling, variable_of}
use Rattle.timing_types.specs.Labelled.{LabelledProgram, labels_of}
use Rattle.start_file.specs.declared.start.Start.{Start}
use Rattle.start_file.specs.Starts.{seen}
use Rattle.lab_ready.specs.Differs.{memory_behind}

of_four : (x₀ x₁ x₂ x₃ x₄ a b c d : List ℕ) → x₀ ≡ [] → x₁ ≡ x₀ ++ a → x₂ ≡ x₁ ++ b → x₃ ≡ x₂ ++ c → x₄ ≡ x₃ ++ d → x₄ ≡ a ++ (b ++ (c ++ d))
of_four x₀ x₁ x₂ x₃ x₄ a b c d e₀ e₁ e₂ e₃ e₄ =
    let one : x₁ ≡ a = e₁ ∙ ap (λ l. l ++ a) e₀ in
    let two : x₂ ≡ a ++ b = e₂ ∙ ap (λ l. l ++ b) one in
    let three : x₃ ≡ a ++ (b ++ c) = e₃ ∙ ap (λ l. l ++ c) two ∙ append_assoc a b c in
    e₄ ∙ ap (λ l. l ++ d) three ∙ simp append_assoc

-- the line of a variable's label
pub seen_put : (q : LabelledProgram) (x n : ℕ) (p r : Syntax) (order : Order) (labels : Labelling) (x₀ x₁ x₂ x₃ x₄ is more : List ℕ)
    → p ≡ q.program → order ≡ p.order → r ≡ q.program → labels ≡ q.labels → n ≡ variable_of order labels x
    → x₀ ≡ [] → x₁ ≡ x₀ ++ (cell_at r.declarations x).name → x₂ ≡ x₁ ++ is → x₃ ≡ x₂ ++ name_of order n → x₄ ≡ x₃ ++ more
    → x₄ ≡ (cell_at q.program.declarations x).name ++ (is ++ (name_of q.program.order (labels_of q x) ++ more))
seen_put q x n p r order labels x₀ x₁ x₂ x₃ x₄ is more program lattice other kept value e₀ e₁ e₂ e₃ e₄ =
    let same : order ≡ q.program.order = lattice ∙ ap (λ (z : Syntax). z.order) program in
    let name = ap (λ (z : Syntax). (cell_at z.declarations x).name) other in
    let label : n ≡ labels_of q x =
    value ∙ ap (λ (z : Order). variable_of z labels x) same ∙ ap (λ (z : Labelling). variable_of q.program.order z x) kept in
    of_four x₀ x₁ x₂ x₃ x₄ (cell_at q.program.declarations x).name is (name_of q.program.order (labels_of q x)) more e₀
    (e₁ ∙ ap (λ (z : List ℕ). x₀ ++ z) name) e₂
    (e₃ ∙ ap (λ (z : List ℕ). x₂ ++ z) (ap (λ (z : Order). name_of z n) same ∙ ap (name_of q.program.order) label)) e₄

-- ---- starts

pub memory_at : (ss : List Start) (i : ℕ) (s : Start) → i < length ss → s ≡ get_or ss i s → s.memory.items ≡ memory_behind i (map seen ss)
memory_at [] i s lt e = absurd (omega (arith, lt))
memory_at (t ∷ ts) zero s lt e = ap (λ (z : Start). z.memory.items) e
memory_at (t ∷ ts) (suc i) s lt e = memory_at ts i s (omega (arith, lt)) e

pub memory_past : (ss : List Start) (i : ℕ) → length ss ≤ i → [] ≡ memory_behind i (map seen ss)
memory_past [] i le = refl
memory_past (t ∷ ts) zero le = absurd (omega (arith, le))
memory_past (t ∷ ts) (suc i) le = memory_past ts i (omega (arith, le))
