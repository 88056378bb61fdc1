-- What `leak` tells of the starts of a space, as a text.
use Rattle.std.specs.Prelude.{◌≡◌, ℕ, List, [], ◌∷◌, ◌++◌, map, codes, decimal}
use Rattle.label_lattice.specs.declared.label.Label.{Label}
use Rattle.label_lattice.specs.Order.{Order}
use Rattle.mit_syntax.specs.Declarations.{Declaration, cell_at}
use Rattle.mit_syntax.specs.Program.{Syntax}
use Rattle.timing_types.specs.Labelled.{LabelledProgram}
use Rattle.label_code.specs.Machine.{Event}
use Rattle.event_print.specs.Text.{cell_text}
use Rattle.seen_line.specs.Field.{field_text}
use Rattle.leak_classes.specs.Classes.{Classes}
use Rattle.leak_numbers.specs.Numbers.{AreNumbers}
use Rattle.space_starts.specs.Space.{SpaceValue, size_of}
use Rattle.tool_texts.specs.Texts.{number_line}
use Rattle.tool_texts.specs.Reports.{label_line}
use Rattle.tool_stages.specs.declared.envs.Environment.{Environment}
use Rattle.machine_stage.specs.Lines.{machine_head}

-- how many starts each class has
abbrev pub sizes_of : Classes → List ℕ
sizes_of k = map (λ c. c.1) k.seen

-- `class SIZE first NUMBER`, a tab, and the field of what the class shows
abbrev pub class_line : List Declaration → List Event → ℕ → ℕ → List ℕ
class_line ds shown size first =
    codes "class " ++ (decimal size ++ (codes " first " ++ (decimal first ++ (codes "\t" ++ (field_text ds shown ++ codes "\n")))))

-- a line for each class, in the order of their first starts
abbrev pub class_lines : List Declaration → List (List Event × ℕ) → List ℕ → List ℕ
class_lines ds (c ∷ cs) (f ∷ fs) = class_line ds c.0 c.1 f ++ class_lines ds cs fs
class_lines ds _ _ = []

-- the number of the starts, the observer, and the budget
abbrev pub head_lines : Order → Label → ℕ → ℕ → List ℕ
head_lines order l t starts = number_line (codes "starts ") starts ++ (label_line (codes "observer ") order l ++ number_line (codes "budget ") t)

-- The whole text, of the classes of all starts. Of a machine that a file describes, how it is shared stands in front.
abbrev pub IsSpaceText : Environment → LabelledProgram → Label → ℕ → SpaceValue → Classes → List ℕ → Type 0
IsSpaceText e q l t s k x =
    (numbers : List ℕ) × AreNumbers (size_of s) (sizes_of k) numbers
    × (x ≡ (machine_head e ++ head_lines q.program.order l t (size_of s)) ++ (numbers ++ class_lines q.program.declarations k.seen k.firsts))

-- `disagree: variable X`
abbrev pub ranging_line : Syntax → ℕ → List ℕ
ranging_line p x = codes "disagree: variable " ++ (cell_text (cell_at p.declarations x) ++ codes "\n")
