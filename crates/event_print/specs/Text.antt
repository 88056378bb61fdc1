-- The text of a run: a line for each assignment that is shown, and a last line.
use Rattle.std.specs.Prelude.{◌≡◌, ◌<◌, ◌≤◌, ℕ, ℤ, List, [], ◌∷◌, ◌++◌, Bool, true, Option, Some, None, codes, decimal}
use Rattle.std.specs.Fmt.{signed_decimal}
use Rattle.label_lattice.specs.declared.label.Label.{Label}
use Rattle.mit_syntax.specs.Declarations.{Declaration, Cell, cell_at, variables}
use Rattle.timing_types.specs.Labelled.{LabelledProgram, order_of, labels_of}
use Rattle.label_code.specs.Machine.{Event, Wrote, Began, Ended}
use Rattle.label_code.specs.Visible.{visible}
use Rattle.cycle_machine.specs.declared.turn.Turn.{Turn}
use Rattle.cycle_machine.specs.declared.turn.Turn.TheVariants.{Event as AnEvent, Began as HasBegun, Ended as HasEnded, Halted as DidHalt, Limit as DidLimit}
use Rattle.cycle_machine.specs.Turned.{is_shown_in}
use Rattle.cycle_machine.specs.Rest.{Told}
use Rattle.cycle_machine.specs.declared.end.RunEnd.{RunEnd}
use Rattle.cycle_machine.specs.declared.end.RunEnd.TheVariants.{Halted, Limit}

-- a variable's name, and the place of an element in its array
abbrev pub place_text : Option ℕ → List ℕ
place_text None = []
place_text (Some k) = codes "[" ++ (decimal k ++ codes "]")

abbrev pub cell_text : Cell → List ℕ
cell_text c = c.name ++ place_text c.place

-- ` @C` and a line feed
abbrev pub cycle_text : ℕ → List ℕ
cycle_text c = codes " @" ++ (decimal c ++ codes "\n")

-- `X = V @C`
abbrev pub event_line : List Declaration → ℕ → ℤ → ℕ → List ℕ
event_line ds x n c = cell_text (cell_at ds x) ++ (codes " = " ++ (signed_decimal n ++ cycle_text c))

-- the lines of the assignments among events
abbrev pub lines_of : List Declaration → List Event → List ℕ
lines_of ds [] = []
lines_of ds (Wrote x n c ∷ es) = event_line ds x n c ++ lines_of ds es
lines_of ds (Began k c ∷ es) = lines_of ds es
lines_of ds (Ended k c ∷ es) = lines_of ds es

-- `end @C` or `limit @C`
abbrev pub last_line : RunEnd → List ℕ
last_line (Halted c) = codes "end" ++ cycle_text c
last_line (Limit c) = codes "limit" ++ cycle_text c

-- what is shown of events: all, or what an observer sees
abbrev pub shown : LabelledProgram → Option Label → List Event → List Event
shown p None es = es
shown p (Some o) es = visible (order_of p) (labels_of p) o.number es

-- whether assignments to a variable are shown
abbrev pub is_shown : LabelledProgram → Option Label → ℕ → Bool
is_shown p None x = true
is_shown p (Some o) x = (order_of p).flows (labels_of p x) o.number

abbrev pub text_of : LabelledProgram → Option Label → Told → List ℕ
text_of p o t = lines_of p.program.declarations (shown p o t.events) ++ last_line t.end

-- a list says of each variable whether its assignments are shown, and of each other number that they are
pub record TellsShown (p : LabelledProgram) (o : Option Label) (list : List Bool) : Type 0 where
  pub each : (x : ℕ) → x < variables p.program.declarations → is_shown_in list x ≡ is_shown p o x
  pub others : (x : ℕ) → variables p.program.declarations ≤ x → is_shown_in list x ≡ true

-- the text of one turn that is shown
abbrev pub text_of_turn : List Declaration → Turn → List ℕ
text_of_turn ds (AnEvent x n t) = event_line ds x n t
text_of_turn ds (HasBegun k t) = []
text_of_turn ds (HasEnded k t) = []
text_of_turn ds (DidHalt t) = last_line (Halted t)
text_of_turn ds (DidLimit t) = last_line (Limit t)
