-- Two least labellings of a program are one.
use Rattle.std.proofs.Common.{◌≡◌, ℕ, sym, ap, ◌∙◌, List, length, get_or}
use Rattle.std.proofs.lemmas.List.{ext_get_or}
use Rattle.label_lattice.specs.declared.label.Label.{Label}
use Rattle.label_lattice.specs.Order.{IsOrder}
use Rattle.mit_syntax.specs.Program.{Syntax}
use Rattle.timing_types.specs.Labelling.{Labelling, marks_from, label_at, variable_of, marks_of, level_of}
use Rattle.timing_types.specs.Labelled.{LabelledProgram}
use Rattle.label_infer.specs.Least.{IsLeast}
use Rattle.label_infer.proofs.Completed.{lattice_laws}

-- a label is its number, and a pair of labels the numbers of both
same_label : (a b : Label) → a.number ≡ b.number → a ≡ b
same_label a b e = ap (λ z. record { number = z }) e

same_pair : (p q : Label × Label) → (marks_from p).er ≡ (marks_from q).er → (marks_from p).ew ≡ (marks_from q).ew → p ≡ q
same_pair p q e f = ap (λ z. (z, p.1)) (same_label p.0 q.0 e) ∙ ap (λ z. (q.0, z)) (same_label p.1 q.1 f)

-- lists of labels
same_labels : (bottom : ℕ) (xs ys : List Label) → length xs ≡ length ys → ((i : ℕ) → label_at bottom xs i ≡ label_at bottom ys i) → xs ≡ ys
same_labels bottom xs ys e f =
    let low : Label = record { number = bottom } in
    ext_get_or low xs ys e (λ i h. same_label (get_or xs i low) (get_or ys i low) (f i))

same_parts : (vs vs' ls ls' : List Label) (cs cs' : List (Label × Label)) → vs ≡ vs' → cs ≡ cs' → ls ≡ ls' →
    ◌≡◌ {A = Labelling} (record { variables = vs; commands = cs; levels = ls }) (record { variables = vs'; commands = cs'; levels = ls' })
same_parts vs vs' ls ls' cs cs' e f g =
    ap (λ z. record { variables = z; commands = cs; levels = ls }) e
    ∙ (ap (λ z. record { variables = vs'; commands = z; levels = ls }) f ∙ ap (λ z. record { variables = vs'; commands = cs'; levels = z }) g)

pub one_least : (p : Syntax) → IsOrder p.order → (a b : Labelling) → IsLeast p a → IsLeast p b → a ≡ b
one_least p order a b ha hb =
    let o = p.order in
    let ll = lattice_laws o order in
    let up = ha.least b hb.labels hb.meets in
    let down = hb.least a ha.labels ha.meets in
    let low : Label = record { number = o.bottom } in
    let ka = ha.labels.keeps in
    let kb = hb.labels.keeps in
    let vs = same_labels o.bottom a.variables b.variables (ka.variables_fit ∙ sym kb.variables_fit)
    (λ i. ll.anti (variable_of o a i) (variable_of o b i) (up.variables i) (down.variables i)) in
    let ls = same_labels o.bottom a.levels b.levels (ka.levels_fit ∙ sym kb.levels_fit)
    (λ i. ll.anti (level_of o a i) (level_of o b i) (up.levels i) (down.levels i)) in
    let cs = ext_get_or (low, low) a.commands b.commands (ka.commands_fit ∙ sym kb.commands_fit)
    (λ i h. same_pair (get_or a.commands i (low, low)) (get_or b.commands i (low, low))
    (ll.anti (marks_of o a i).er (marks_of o b i).er (up.reads i) (down.reads i))
    (ll.anti (marks_of o a i).ew (marks_of o b i).ew (up.writes i) (down.writes i))) in
    same_parts a.variables b.variables a.levels b.levels a.commands b.commands vs cs ls

same_labelled : (p p' : Syntax) (l l' : Labelling) → p ≡ p' → l ≡ l'
    → ◌≡◌ {A = LabelledProgram} (record { program = p; labels = l }) (record { program = p'; labels = l' })
same_labelled p p' l l' e f = ap (λ z. record { program = z; labels = l }) e ∙ ap (λ z. record { program = p'; labels = z }) f

-- so a program has one labelled program with its least labelling
pub one_labelled : (p : Syntax) → IsOrder p.order → (q r : LabelledProgram) → q.program ≡ p → r.program ≡ p → IsLeast p q.labels → IsLeast p r.labels → q ≡ r
one_labelled p order q r e f hq hr = same_labelled q.program r.program q.labels r.labels (e ∙ sym f) (one_least p order q.labels r.labels hq hr)
