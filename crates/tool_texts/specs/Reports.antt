-- The texts of commands that are written as one piece, and the lines of their refusals.
use Rattle.std.specs.Prelude.{ℕ, ◌+◌, List, [], ◌∷◌, ◌++◌, length, map, codes, decimal}
use Rattle.label_lattice.specs.declared.label.Label.{Label}
use Rattle.label_lattice.specs.Order.{Order, name_of}
use Rattle.env_contract.specs.declared.place.Place.{Place}
use Rattle.env_contract.specs.declared.place.Place.TheVariants.{Page, Code, Data, Second}
use Rattle.mit_syntax.specs.Declarations.{cell_at}
use Rattle.mit_syntax.specs.Program.{Syntax}
use Rattle.event_print.specs.Text.{cell_text, cycle_text}
use Rattle.leak_bound.specs.Digits.{digits}
use Rattle.leak_bound.specs.Records.{distinct_count, classes_of}
use Rattle.leak_audit.specs.declared.measure.Measures.{Measures}
use Rattle.leak_audit.specs.declared.what.What.{What}
use Rattle.leak_audit.specs.declared.what.What.TheVariants.{Variable, Partition}
use Rattle.leak_audit.specs.declared.report.AuditReport.{AuditReport}
use Rattle.cut_audit.specs.declared.report.CutReport.{CutReport}
use Rattle.mit_gen.specs.Made.{program_text}
use Rattle.black_box.specs.declared.fault.ReadyFault.{ReadyFault}
use Rattle.black_box.specs.declared.fault.ReadyFault.TheVariants as ready
use Rattle.black_box.specs.Audits.{same_cycles}
use Rattle.black_box.specs.Outcomes.{Outcome}
use Rattle.tool_texts.specs.Texts.{number_line, memory_line}

-- words, the name of a label, and the end of the line
abbrev pub label_line : List ℕ → Order → Label → List ℕ
label_line words o l = words ++ (name_of o l.number ++ codes "\n")

-- `bound BASE^EXPONENT`
abbrev pub bound_line : ℕ → ℕ → List ℕ
bound_line base exponent = codes "bound " ++ (decimal base ++ (codes "^" ++ (decimal exponent ++ codes "\n")))

-- `run R class C`
abbrev pub class_line : ℕ → ℕ → List ℕ
class_line run class = codes "run " ++ (decimal run ++ (codes " class " ++ (decimal class ++ codes "\n")))

-- a line for each run, numbered from n
abbrev pub class_lines : ℕ → List ℕ → List ℕ
class_lines n [] = []
class_lines n (c ∷ cs) = class_line n c ++ class_lines (n + 1) cs

-- ---- an audit

-- how audits begin: the runs, the observer, the budget, and the levels that do not flow to the observer
abbrev pub head_lines : Order → Label → ℕ → ℕ → ℕ → List ℕ
head_lines o l budget runs levels =
    number_line (codes "runs ") runs ++ (label_line (codes "observer ") o l
    ++ (number_line (codes "budget ") budget ++ number_line (codes "levels ") levels))

-- how they end: the different sequences, their bound, and the class of each run
abbrev pub tail_lines : Measures → List ℕ
tail_lines m = number_line (codes "distinct ") m.distinct ++ (bound_line m.base m.exponent ++ class_lines 1 m.classes.items)

abbrev pub audit_lines : Order → Label → ℕ → AuditReport → List ℕ
audit_lines o l budget r =
    head_lines o l budget r.runs r.measures.levels ++ (number_line (codes "mitigations ") r.mitigations ++ tail_lines r.measures)

-- an audit of runs that may not have halted
abbrev pub cut_lines : Order → Label → ℕ → CutReport → List ℕ
cut_lines o l budget r =
    head_lines o l budget r.runs r.measures.levels
    ++ (number_line (codes "ended ") r.ended ++ (number_line (codes "halted ") r.halted ++ tail_lines r.measures))

abbrev pub place_name : Place → List ℕ
place_name Page = codes "page"
place_name Code = codes "code"
place_name Data = codes "data"
place_name Second = codes "second"

-- the run that does not agree with the first one, and where it differs
abbrev pub disagree_line : Syntax → ℕ → What → List ℕ
disagree_line p run (Variable x) =
    codes "disagree: run " ++ (decimal run ++ (codes ": variable " ++ (cell_text (cell_at p.declarations x) ++ codes "\n")))
disagree_line p run (Partition q l) =
    codes "disagree: run " ++ (decimal run ++ (codes ": partition " ++ (name_of p.order l.number
    ++ (codes " of " ++ (place_name q ++ codes "\n")))))

-- the run that has not halted, and its clock
abbrev pub unfinished_line : ℕ → ℕ → List ℕ
unfinished_line run cycle = codes "unfinished: run " ++ (decimal run ++ cycle_text cycle)

-- how many assignments are shown
abbrev pub events_line : ℕ → List ℕ
events_line count = number_line (codes "too long: events ") count

-- ---- a made program

-- `made SIZE NUMBER`
abbrev pub made_line : ℕ → ℕ → List ℕ
made_line size number = codes "made " ++ (decimal size ++ (codes " " ++ (decimal number ++ codes "\n")))

-- it, and the numbers of the program's bytes, its commands and its instructions
abbrev pub made_lines : ℕ → ℕ → ℕ → ℕ → List ℕ
made_lines size number commands instructions =
    made_line size number
    ++ (number_line (codes "program ") (length (program_text size number))
    ++ (number_line (codes "commands ") commands ++ number_line (codes "instructions ") instructions))

-- ---- a black box

-- `run R event I @C`
abbrev pub release_line : ℕ → ℕ → ℕ → List ℕ
release_line run event cycle = codes "run " ++ (decimal run ++ (codes " event " ++ (decimal event ++ cycle_text cycle)))

-- a line for each release of a run, whose events are numbered from n
abbrev pub release_lines : ℕ → ℕ → List ℕ → List ℕ
release_lines run n [] = []
release_lines run n (c ∷ cs) = release_line run n c ++ release_lines run (n + 1) cs

-- the releases of all runs, numbered from n
abbrev pub releases_of : ℕ → List Outcome → List ℕ
releases_of n [] = []
releases_of n (w ∷ ws) = release_lines n 1 w.at ++ releases_of (n + 1) ws

-- `run R events E released M epochs P class C`
abbrev pub run_text : ℕ → ℕ → Outcome → ℕ → List ℕ
run_text run events w class =
    codes "run " ++ (decimal run ++ (codes " events " ++ (decimal events ++ (codes " released " ++ (decimal (length w.at)
    ++ (codes " epochs " ++ (decimal w.epochs ++ (codes " class " ++ (decimal class ++ codes "\n")))))))))

-- a line for each run, numbered from n: its events, its releases and its class
abbrev pub run_texts : ℕ → List (List ℕ) → List Outcome → List ℕ → List ℕ
run_texts n (r ∷ rs) (w ∷ ws) (c ∷ cs) = run_text n (length r) w c ++ run_texts (n + 1) rs ws cs
run_texts n _ _ _ = []

-- runs with these ready cycles: what is released when, how many different lists of releases there are, the
-- bound of that, and the class of each run
abbrev pub box_text : ℕ → ℕ → List (List ℕ) → List Outcome → ℕ → ℕ → ℕ → List ℕ → List ℕ
box_text first budget runs outcomes distinct base exponent classes =
    releases_of 1 outcomes
    ++ (number_line (codes "runs ") (length runs) ++ (number_line (codes "first ") first
    ++ (number_line (codes "budget ") budget ++ (number_line (codes "distinct ") distinct
    ++ (bound_line base exponent ++ run_texts 1 runs outcomes classes)))))

-- the releases of runs
abbrev pub all_released : List Outcome → List (List ℕ)
all_released outcomes = map (λ w. w.at) outcomes

-- the slots of the first epoch lie `first` cycles apart
abbrev pub box_lines : ℕ → ℕ → List (List ℕ) → List Outcome → List ℕ
box_lines first budget runs outcomes =
    box_text first budget runs outcomes (distinct_count same_cycles (all_released outcomes))
    (budget + 1) (digits budget) (classes_of same_cycles (all_released outcomes))

abbrev pub ready_fault_line : ReadyFault → List ℕ
ready_fault_line (ready.BadLine n) = number_line (codes "ready: bad line ") n
ready_fault_line ready.NoRuns = codes "ready: no runs\n"
ready_fault_line (ready.TooMany n) = number_line (codes "ready: too many runs: ") n
ready_fault_line ready.Memory = memory_line
