-- What a list of shown variables tells of events and of turns.
use Rattle.std.proofs.Common.{◌≡◌, ◌<◌, ◌≤◌, ℕ, List, [], ◌∷◌, refl, sym, ◌∙◌, ⊎_elim, Bool, true, false, Option, None, Some}
use Rattle.std.specs.Prelude.{All}
use Rattle.std.proofs.lemmas.Bool.{cases_lt}
use Rattle.std.proofs.lemmas.List.Elements.{All-head}
use Rattle.label_lattice.specs.declared.label.Label.{Label}
use Rattle.mit_syntax.specs.Declarations.{variables}
use Rattle.timing_types.specs.Labelled.{LabelledProgram, order_of, labels_of}
use Rattle.label_code.specs.Machine.{Event, Wrote, Began, Ended}
use Rattle.label_code.specs.Shaped.{Code, IsShaped}
use Rattle.cycle_machine.specs.declared.turn.Turn.{Turn}
use Rattle.cycle_machine.specs.declared.turn.Turn.TheVariants.{Event as AnEvent, Began as HasBegun, Ended as HasEnded, Halted as DidHalt, Limit as DidLimit}
use Rattle.cycle_machine.specs.Turned.{is_shown_in, IsHidden}
use Rattle.cycle_machine.specs.Rest.{IsTurnBelow}
use Rattle.cycle_machine.proofs.Goes.{IsShownTurn}
use Rattle.cycle_machine.proofs.Unshown.{none_visible}
use Rattle.event_print.specs.Text.{shown, is_shown, TellsShown}

-- the assignment of a turn is shown
abbrev pub IsShown : LabelledProgram → Option Label → Turn → Type 0
IsShown p o (AnEvent x n t) = is_shown p o x ≡ true
IsShown p o (HasBegun k t) = Unit {0}
IsShown p o (HasEnded k t) = Unit {0}
IsShown p o (DidHalt t) = Unit {0}
IsShown p o (DidLimit t) = Unit {0}

not_shown : (p : LabelledProgram) (o : Option Label) (list : List Bool) → TellsShown p o list → (x : ℕ) → is_shown_in list x ≡ false → is_shown p o x ≡ false
not_shown p o list t x e =
    ⊎_elim (λ (l : x < variables p.program.declarations). sym (t.each x l) ∙ e)
    (λ (l : variables p.program.declarations ≤ x). let bad : true ≡ false = sym (t.others x l) ∙ e in absurd cc)
    (cases_lt x (variables p.program.declarations))

all_events : (p : LabelledProgram) (list : List Bool) → TellsShown p None list → (es : List Event) → All (IsHidden list) es → es ≡ []
all_events p list t [] h = refl
all_events p list t (Wrote x n c ∷ es) h = let bad : true ≡ false = not_shown p None list t x (All-head (IsHidden list) (Wrote x n c) es h) in absurd cc
all_events p list t (Began k c ∷ es) h = absurd (All-head (IsHidden list) (Began k c) es h)
all_events p list t (Ended k c ∷ es) h = absurd (All-head (IsHidden list) (Ended k c) es h)

-- nothing is shown of events that are hidden by the list
pub none_shown : (p : LabelledProgram) (o : Option Label) (list : List Bool) → TellsShown p o list → (es : List Event)
    → All (IsHidden list) es → shown p o es ≡ []
none_shown p None list t es h = all_events p list t es h
none_shown p (Some l) list t es h = none_visible list (order_of p) (labels_of p) l.number (not_shown p (Some l) list t) es h

-- a turn that is shown by the list is shown
pub turn_is_shown : (p : LabelledProgram) (o : Option Label) (list : List Bool) (turn : Turn) → TellsShown p o list
    → IsTurnBelow (variables p.program.declarations) turn → IsShownTurn list turn → IsShown p o turn
turn_is_shown p o list (AnEvent x n c) t l e = sym (t.each x l) ∙ e
turn_is_shown p o list (HasBegun k c) t l e = tt
turn_is_shown p o list (HasEnded k c) t l e = tt
turn_is_shown p o list (DidHalt c) t l e = tt
turn_is_shown p o list (DidLimit c) t l e = tt

-- shaped code has few variables
pub few_variables : (c : Code) → IsShaped c → c.variables ≤ 3072
few_variables c s = s.1.variables
