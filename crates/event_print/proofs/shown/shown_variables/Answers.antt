use Rattle.std.proofs.Common.{◌≡◌, ◌<◌, ◌≤◌, ℕ, zero, suc, List, Bool, true, Option, None, Some, refl, sym, ◌∙◌, subst}
use Rattle.std.specs.Prelude.{replicate, slice_index_or}
use Rattle.label_lattice.specs.declared.label.Label.{Label}
use Rattle.mit_syntax.specs.Declarations.{variables}
use Rattle.timing_types.specs.Labelled.{LabelledProgram, order_of, labels_of}
use Rattle.event_print.specs.Text.{TellsShown}
use Rattle.event_print.proofs.shown.shown_variables.Goals as goal

all_true : (n x : ℕ) → slice_index_or (replicate n true) x true ≡ true
all_true zero x = refl
all_true (suc n) zero = refl
all_true (suc n) (suc x) = all_true n x

tells_some : (p : LabelledProgram) (o : Option Label) (l : Label) (list first : List Bool) → o ≡ Some l →
    ((x : ℕ) → x < variables p.program.declarations → slice_index_or list x true ≡ (order_of p).flows (labels_of p x) l.number) →
    ((x : ℕ) → variables p.program.declarations ≤ x → slice_index_or list x true ≡ slice_index_or first x true)
    → ((x : ℕ) → slice_index_or first x true ≡ true) → TellsShown p o list
tells_some p o l list first e each kept all = subst (λ z. TellsShown p z list) (sym e) (record { each = each; others = λ x m. kept x m ∙ all x })

tells_all : (p : LabelledProgram) (o : Option Label) (list : List Bool) → ((l : Label) → o ≡ Some l → ⊥)
    → ((x : ℕ) → slice_index_or list x true ≡ true) → TellsShown p o list
tells_all p None list none all = record { each = λ x l. all x; others = λ x l. all x }
tells_all p (Some l) list none all = absurd (none l refl)

pub returns-in-Some : goal.returns-in-Some
returns-in-Some c = tells_some c.args.p.now c.args.observer c.in-Some.label c.mark_seen.new.seen (replicate 3072 true) c.in-Some.is
    c.mark_seen.ensures.variables c.mark_seen.ensures.others (all_true 3072)

pub returns-in_default : goal.returns-in_default
returns-in_default c = tells_all c.args.p.now c.args.observer _ c.in_default.not-Some (all_true 3072)
