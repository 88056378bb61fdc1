-- What is told of two starts that do not agree: what each has, and what all starts of an audit have alike.
use Rattle.std.specs.Prelude.{ℕ, zero, suc, ◌-◌, ℤ, List, [], ◌∷◌, ◌++◌, Option, Some, None, codes, decimal}
use Rattle.std.specs.Fmt.{signed_decimal}
use Rattle.label_lattice.specs.declared.label.Label.{Label}
use Rattle.label_lattice.specs.Order.{name_of}
use Rattle.mit_syntax.specs.Declarations.{Cell, cell_at}
use Rattle.mit_syntax.specs.Values.{read}
use Rattle.timing_types.specs.Labelled.{LabelledProgram, labels_of}
use Rattle.start_file.specs.Starts.{StartValue}
use Rattle.start_faults.specs.Found.{at_line}
use Rattle.event_print.specs.Text.{cell_text}
use Rattle.leak_audit.specs.declared.what.What.{What}
use Rattle.leak_audit.specs.declared.what.What.TheVariants.{Variable, Partition}

-- the values of the start behind so many others
abbrev pub memory_behind : ℕ → List StartValue → List ℤ
memory_behind n [] = []
memory_behind zero (s ∷ ss) = s.memory
memory_behind (suc n) (s ∷ ss) = memory_behind n ss

-- `found V in run R`: what a variable has in a run, counted from 1
abbrev pub value_line : List StartValue → ℕ → ℕ → List ℕ
value_line ss x run =
    codes "found " ++ (signed_decimal (read (memory_behind (run - 1) ss) x) ++ (codes " in run " ++ (decimal run ++ codes "\n")))

-- the place of an element
abbrev pub element_line : Cell → Option ℕ → List ℕ
element_line c None = []
element_line c (Some k) = at_line (cell_text c)

-- the label of a variable, and what that asks for
abbrev pub seen_line : LabelledProgram → ℕ → List ℕ
seen_line q x =
    (cell_at q.program.declarations x).name ++ (codes " is " ++ (name_of q.program.order (labels_of q x)
    ++ codes ", which the observer sees: all runs begin with the same value\n"))

-- what the environments hold for labels that the observer sees
abbrev pub held_line : LabelledProgram → Label → List ℕ
held_line q l = codes "what is held for labels that flow to " ++ (name_of q.program.order l.number ++ codes " is the same in all runs\n")

-- the lines on a run that differs from the first one
abbrev pub differs_lines : LabelledProgram → Label → List StartValue → ℕ → What → List ℕ
differs_lines q l ss run (Variable x) =
    element_line (cell_at q.program.declarations x) (cell_at q.program.declarations x).place
    ++ (value_line ss x run ++ (value_line ss x 1 ++ seen_line q x))
differs_lines q l ss run (Partition place k) = held_line q l
