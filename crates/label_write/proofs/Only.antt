-- A program that writes all labels of a labelling has that labelling and no other.
use Rattle.std.proofs.Common.{◌≡◌, refl, sym, ap, ◌∙◌, subst, ℕ, ◌<◌, arith, List, length, get_or, Option, Some}
use Rattle.std.proofs.lemmas.List.{same_lists, get_or_default}
use Rattle.label_lattice.specs.declared.label.Label.{Label}
use Rattle.label_lattice.specs.Order.{Order}
use Rattle.mit_syntax.specs.declared.ast.Command.{Command}
use Rattle.mit_syntax.specs.Declarations.{Declaration, variables, cell_at}
use Rattle.mit_syntax.specs.Todo.{Marks}
use Rattle.mit_syntax.specs.Plan.{list_plan, count, mitigates}
use Rattle.mit_syntax.specs.Program.{Syntax, syntax, plan_of}
use Rattle.mit_syntax.specs.Valid.{IsValid}
use Rattle.timing_types.specs.Labelled.{LabelledProgram}
use Rattle.timing_types.specs.Labelling.{Labelling, IsLabelling, IsKept, Keeps, variable_of, marks_of, level_of}
use Rattle.label_write.specs.Written.{as_label, written_plan, written_declarations, HasOnly}
use Rattle.label_write.proofs.Validity.{same_count, same_mitigates, valid_written}
use Rattle.label_write.proofs.Kept.{marks_same, levels_same, keeps_own}
use Rattle.label_write.proofs.Owned.{same_variables, label_written}

-- lists of labels with the same numbers
same_labels : (bottom : ℕ) (xs ys : List Label) → length xs ≡ length ys
    → ((k : ℕ) → k < length xs → (get_or xs k (as_label bottom)).number ≡ (get_or ys k (as_label bottom)).number) → xs ≡ ys
same_labels bottom xs ys e h =
    same_lists xs ys e
    (λ k d b. get_or_default xs k d (as_label bottom) b ∙ ap as_label (h k b) ∙ get_or_default ys k (as_label bottom) d (subst (λ n. k < n) e b))

abbrev pair_of : Marks → Label × Label
pair_of m = (as_label m.er, as_label m.ew)

module _ (s : Syntax) (l : Labelling) (v : IsValid s) (h : IsLabelling s l) (b : List Command) (e : list_plan b ≡ written_plan s.order l (plan_of s) 0) where
  abbrev labelled : Syntax
  labelled = syntax s.order s.pairs (written_declarations s.order l s.declarations 0) b

  written_label : (x : ℕ) → x < variables s.declarations
      → (cell_at (written_declarations s.order l s.declarations 0) x).label ≡ Some (as_label (variable_of s.order l x))
  written_label x i = label_written s.order l s.declarations h.declared v.arrays x i

  counted : count (list_plan b) ≡ count (plan_of s)
  counted = ap (λ z. count z) e ∙ same_count s.order l (plan_of s) 0

  mitigated : mitigates (list_plan b) ≡ mitigates (plan_of s)
  mitigated = ap (λ z. mitigates z) e ∙ same_mitigates s.order l (plan_of s) 0

  has : IsLabelling labelled l
  has = record {
    variables_fit = h.variables_fit ∙ sym (same_variables s.order l s.declarations 0);
    commands_fit = h.commands_fit ∙ sym counted;
    levels_fit = h.levels_fit ∙ sym mitigated;
    variables_below = h.variables_below;
    commands_below = h.commands_below;
    levels_below = h.levels_below;
    declared = λ x i.
        subst (λ (z : Option Label). IsKept z (variable_of s.order l x))
        (sym (written_label x (subst (λ n. x < n) (same_variables s.order l s.declarations 0) i))) refl;
    written = subst (λ z. Keeps (marks_of s.order l) (level_of s.order l) z 0) (sym e) (keeps_own s.order l (plan_of s) 0);
  }

  module _ (m : Labelling) (g : IsLabelling labelled m) where
    keeps : Keeps (marks_of s.order m) (level_of s.order m) (written_plan s.order l (plan_of s) 0) 0
    keeps = subst (λ z. Keeps (marks_of s.order m) (level_of s.order m) z 0) e g.written

    variables_length : length m.variables ≡ variables s.declarations
    variables_length = g.variables_fit ∙ same_variables s.order l s.declarations 0

    commands_length : length m.commands ≡ count (plan_of s)
    commands_length = g.commands_fit ∙ counted

    levels_length : length m.levels ≡ mitigates (plan_of s)
    levels_length = g.levels_fit ∙ mitigated

    same_variable : (x : ℕ) → x < length m.variables → variable_of s.order m x ≡ variable_of s.order l x
    same_variable x i =
        let j : x < variables s.declarations = subst (λ n. x < n) variables_length i in
        subst (λ (z : Option Label). IsKept z (variable_of s.order m x)) (written_label x j)
        (g.declared x (subst (λ n. x < n) (sym (same_variables s.order l s.declarations 0)) j))

    same_command : (i : ℕ) → i < length m.commands → marks_of s.order m i ≡ marks_of s.order l i
    same_command i a =
        let n = commands_length in
        marks_same s.order l (marks_of s.order m) (level_of s.order m) (plan_of s) 0 keeps i (omega arith) (omega (arith, n, a))

    same_level : (k : ℕ) → k < length m.levels → level_of s.order m k ≡ level_of s.order l k
    same_level k a =
        let n = levels_length in
        levels_same s.order l (marks_of s.order m) (level_of s.order m) (plan_of s) 0 0 v.numbered keeps k (omega arith) (omega (arith, n, a))

    variables_are : m.variables ≡ l.variables
    variables_are = same_labels s.order.bottom m.variables l.variables (variables_length ∙ sym h.variables_fit) same_variable

    levels_are : m.levels ≡ l.levels
    levels_are = same_labels s.order.bottom m.levels l.levels (levels_length ∙ sym h.levels_fit) same_level

    commands_are : m.commands ≡ l.commands
    commands_are =
        let low : Label × Label = (as_label s.order.bottom, as_label s.order.bottom) in
        let fit : length m.commands ≡ length l.commands = commands_length ∙ sym h.commands_fit in
        same_lists m.commands l.commands fit
        (λ k d a. get_or_default m.commands k d low a ∙ ap pair_of (same_command k a) ∙ get_or_default l.commands k low d (subst (λ n. k < n) fit a))

    same : m ≡ l
    same =
        ap (λ (z : List Label). let y : Labelling = record { variables = z; commands = m.commands; levels = m.levels } in y) variables_are
        ∙ ap (λ (z : List (Label × Label)). let y : Labelling = record { variables = l.variables; commands = z; levels = m.levels } in y) commands_are
        ∙ ap (λ (z : List Label). let y : Labelling = record { variables = l.variables; commands = l.commands; levels = z } in y) levels_are

  has_only : HasOnly labelled l
  has_only = λ m. (λ g. same m g, λ q. subst (λ z. IsLabelling labelled z) (sym q) has)

-- the same of parts that are equal to a labelled program's
module _ (p : LabelledProgram) (s : Syntax) (o : Order) (l : Labelling) (ps ps' : List (Label × Label)) (ds es : List Declaration)
    (cs b : List Command) (hs : s ≡ p.program)
    (lab : IsLabelling p.program p.labels) (v : IsValid s) (ho : o ≡ s.order) (hl : l ≡ p.labels) (hp : ps ≡ ps') (hq : ps' ≡ s.pairs)
    (hd : ds ≡ s.declarations) (hc : list_plan cs ≡ plan_of s)
    (he : es ≡ written_declarations o l ds 0) (hb : list_plan b ≡ written_plan o l (list_plan cs) 0) where
  declared : es ≡ written_declarations s.order p.labels s.declarations 0
  declared =
      he ∙ ap (λ z. written_declarations z l ds 0) ho ∙ ap (λ z. written_declarations s.order z ds 0) hl
      ∙ ap (λ z. written_declarations s.order p.labels z 0) hd

  planned : list_plan b ≡ written_plan s.order p.labels (plan_of s) 0
  planned =
      hb ∙ ap (λ z. written_plan z l (list_plan cs) 0) ho ∙ ap (λ z. written_plan s.order z (list_plan cs) 0) hl
      ∙ ap (λ z. written_plan s.order p.labels z 0) hc

  fits : IsLabelling s p.labels
  fits = subst (λ z. IsLabelling z p.labels) (sym hs) lab

  are : syntax s.order s.pairs (written_declarations s.order p.labels s.declarations 0) b ≡ syntax o ps es b
  are =
      ap (λ z. syntax s.order s.pairs z b) (sym declared)
      ∙ ap (λ z. syntax s.order z es b) (sym (hp ∙ hq))
      ∙ ap (λ z. syntax z ps es b) (sym ho)

  pub valid_parts : IsValid (syntax o ps es b)
  valid_parts = subst (λ z. IsValid z) are (valid_written s p.labels v fits b planned)

  pub only_parts : HasOnly (syntax o ps es b) p.labels
  only_parts = subst (λ z. HasOnly z p.labels) are (has_only s p.labels v fits b planned)
