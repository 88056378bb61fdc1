-- The text of a timeline: a line for each moment that is shown, and a last line.
use Rattle.std.specs.Prelude.{ℕ, ℤ, List, [], ◌++◌, flat_map, ltb, cond, Option, Some, None, codes, decimal, slice_get}
use Rattle.std.specs.Fmt.{signed_decimal}
use Rattle.text_base.specs.declared.pos.Pos.{Pos}
use Rattle.label_lattice.specs.declared.label.Label.{Label}
use Rattle.label_lattice.specs.Order.{name_of}
use Rattle.mit_syntax.specs.Plan.{mitigates}
use Rattle.mit_syntax.specs.Program.{plan_of}
use Rattle.timing_types.specs.Labelled.{LabelledProgram, levels_of}
use Rattle.cycle_machine.specs.declared.end.RunEnd.{RunEnd}
use Rattle.event_print.specs.Text.{event_line, last_line, cycle_text, is_shown}
use Rattle.run_timeline.specs.declared.moment.Moment.{Moment}
use Rattle.run_timeline.specs.declared.moment.Moment.TheVariants.{Assigned, Begins, Ends}
use Rattle.run_timeline.specs.Places.{places}

abbrev pub number_text : List ℕ → ℕ → List ℕ
number_text words n = words ++ decimal n

-- a place, LINE:COLUMN, after a space
abbrev pub place_text : Option Pos → List ℕ
place_text None = []
place_text (Some at) = number_text (codes " ") at.line ++ number_text (codes ":") at.column

-- ` #K`, and the place of the mitigate with that mark
abbrev pub mark_text : List Pos → ℕ → List ℕ
mark_text ps k = number_text (codes " #") k ++ place_text (slice_get ps k)

-- its level
abbrev pub level_text : LabelledProgram → ℕ → List ℕ
level_text p k = cond (ltb k (mitigates (plan_of p.program))) (codes " level " ++ name_of p.program.order (levels_of p k)) []

abbrev pub head_text : LabelledProgram → List Pos → List ℕ → ℕ → List ℕ
head_text p ps word k = word ++ (mark_text ps k ++ level_text p k)

abbrev pub begin_text : ℤ → ℕ → ℕ → ℕ → List ℕ
begin_text n d m c = codes " estimate " ++ (signed_decimal n ++ (number_text (codes " predicts ") d ++ (number_text (codes " misses ") m ++ cycle_text c)))

abbrev pub end_text : ℕ → ℕ → ℕ → ℕ → ℕ → List ℕ
end_text w d m n c = number_text (codes " worked ")
    w ++ (number_text (codes " lasts ") d ++ (number_text (codes " misses ") m ++ (number_text (codes " to ") n ++ cycle_text c)))

-- the line of a moment; an assignment has one where it is shown
abbrev pub moment_text : LabelledProgram → List Pos → Option Label → Moment → List ℕ
moment_text p ps o (Assigned x n c) = cond (is_shown p o x) (event_line p.program.declarations x n c) []
moment_text p ps o (Begins k n d m c) = head_text p ps (codes "begin") k ++ begin_text n d m c
moment_text p ps o (Ends k w d m n c) = head_text p ps (codes "end") k ++ end_text w d m n c

abbrev pub moments_text : LabelledProgram → List Pos → Option Label → List Moment → List ℕ
moments_text p ps o ms = flat_map (moment_text p ps o) ms

-- the lines of a run, and how it ended
abbrev pub timeline_text : LabelledProgram → Option Label → List Moment → RunEnd → List ℕ
timeline_text p o ms end = moments_text p (places (plan_of p.program)) o ms ++ last_line end

-- `run R`
abbrev pub run_text : ℕ → List ℕ
run_text r = number_text (codes "run ") r ++ codes "\n"
