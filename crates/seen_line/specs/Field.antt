-- What an observer sees of a run, as one field of a line.
use Rattle.std.specs.Prelude.{◌≡◌, ◌<◌, ◌^◌, ◌↔◌, ℕ, ℤ, List, [], ◌∷◌, ◌++◌, map, flat_map, Bool, true, false, cond, codes, decimal}
use Rattle.std.specs.Fmt.{signed_decimal}
use Rattle.std.specs.Int.Signed.{mag}
use Rattle.label_lattice.specs.declared.label.Label.{Label}
use Rattle.mit_syntax.specs.Declarations.{Declaration, variables, cell_at}
use Rattle.mit_syntax.specs.Program.{Syntax}
use Rattle.mit_syntax.specs.Valid.{IsValid}
use Rattle.timing_types.specs.Labelled.{LabelledProgram, order_of, labels_of}
use Rattle.label_code.specs.Machine.{Event, Wrote, Began, Ended}
use Rattle.label_code.specs.Visible.{visible}
use Rattle.cycle_machine.specs.declared.turn.Turn.{Turn}
use Rattle.cycle_machine.specs.declared.turn.Turn.TheVariants.{Event as AnEvent, Began as HasBegun, Ended as HasEnded, Halted as DidHalt, Limit as DidLimit}
use Rattle.event_print.specs.Text.{cell_text}
use Rattle.cycle_machine.specs.Rest.{Told}

-- `X=V@C`
abbrev pub item : List Declaration → ℕ → ℤ → ℕ → List ℕ
item ds x n c = cell_text (cell_at ds x) ++ (codes "=" ++ (signed_decimal n ++ (codes "@" ++ decimal c)))

abbrev pub item_of : List Declaration → Event → List ℕ
item_of ds (Wrote x n c) = item ds x n c
item_of ds (Began k c) = []
item_of ds (Ended k c) = []

-- pieces, each after a space
abbrev pub spaced : List (List ℕ) → List ℕ
spaced ws = flat_map (λ w. codes " " ++ w) ws

-- pieces with one space between two of them; `-` where there is none
abbrev pub field_of : List (List ℕ) → List ℕ
field_of [] = codes "-"
field_of (w ∷ ws) = w ++ spaced ws

-- the field of a list of assignments
abbrev pub field_text : List Declaration → List Event → List ℕ
field_text ds es = field_of (map (item_of ds) es)

-- the field of what an observer sees of a run
abbrev pub seen_text : LabelledProgram → Label → Told → List ℕ
seen_text p o t = field_text p.program.declarations (visible (order_of p) (labels_of p) o.number t.events)

-- an assignment to one of the first so many variables, of a value of 64 bits at a cycle of 64 bits
abbrev pub IsPrintable : ℕ → Event → Type 0
IsPrintable k (Wrote x n c) = (x < k) × (mag n < 2 ^ 63) × (c < 2 ^ 64)
IsPrintable k (Began j c) = ⊥
IsPrintable k (Ended j c) = ⊥

abbrev pub ArePrintable : ℕ → List Event → Type 0
ArePrintable k [] = Unit {0}
ArePrintable k (e ∷ es) = IsPrintable k e × ArePrintable k es

-- lists of assignments to a program's variables have one field exactly where they are one list
abbrev pub FieldsTellApart : Type 0
FieldsTellApart = (s : Syntax) → IsValid s → (es fs : List Event) → ArePrintable (variables s.declarations) es → ArePrintable (variables s.declarations) fs →
    (field_text s.declarations es ≡ field_text s.declarations fs) ↔ (es ≡ fs)

-- the space before an item that is not the first
abbrev pub lead : Bool → List ℕ
lead none = cond none [] (codes " ")

-- what a turn that is seen adds to a field of which so far there is nothing, or something
abbrev pub piece : List Declaration → Bool → Turn → List ℕ
piece ds none (AnEvent x n c) = lead none ++ item ds x n c
piece ds none (HasBegun k c) = []
piece ds none (HasEnded k c) = []
piece ds none (DidHalt c) = cond none (codes "-") []
piece ds none (DidLimit c) = cond none (codes "-") []

-- whether there is still nothing after it
abbrev pub next_none : Bool → Turn → Bool
next_none none (AnEvent x n c) = false
next_none none (HasBegun k c) = none
next_none none (HasEnded k c) = none
next_none none (DidHalt c) = none
next_none none (DidLimit c) = none

abbrev pub is_last : Turn → Bool
is_last (AnEvent x n c) = false
is_last (HasBegun k c) = false
is_last (HasEnded k c) = false
is_last (DidHalt c) = true
is_last (DidLimit c) = true

-- value and cycle have 64 bits
abbrev pub IsPrintableTurn : Turn → Type 0
IsPrintableTurn (AnEvent x n c) = (mag n < 2 ^ 63) × (c < 2 ^ 64)
IsPrintableTurn (HasBegun k c) = Unit {0}
IsPrintableTurn (HasEnded k c) = Unit {0}
IsPrintableTurn (DidHalt c) = Unit {0}
IsPrintableTurn (DidLimit c) = Unit {0}
