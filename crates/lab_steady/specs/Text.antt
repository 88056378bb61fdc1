-- The text of an answer.
use Rattle.std.specs.Prelude.{ℕ, zero, suc, ◌+◌, List, [], ◌++◌, Bool, true, false, cond, not, ◌||◌, Option, Some, None, codes, decimal}
use Rattle.std.specs.Prelude.{slice_get}
use Rattle.text_base.specs.declared.pos.Pos.{Pos}
use Rattle.mit_syntax.specs.declared.token.Token.{Token}
use Rattle.mit_syntax.specs.Declarations.{variables}
use Rattle.mit_syntax.specs.Program.{Syntax, plan_of}
use Rattle.timing_types.specs.Labelled.{LabelledProgram, order_of, labels_of}
use Rattle.label_code.specs.declared.code.Instr.{Instr}
use Rattle.code_lower.specs.Lowered.{lowered}
use Rattle.steady_code.specs.declared.fault.Fault.{Fault}
use Rattle.steady_code.specs.declared.costing.Constant.{Constant}
use Rattle.steady_code.specs.declared.costing.Costing.{Costing}
use Rattle.steady_code.specs.declared.costing.Costing.TheVariants.{Table, Only}
use Rattle.steady_code.specs.declared.fault.Reason.{Reason}
use Rattle.steady_code.specs.declared.fault.Reason.TheVariants.{Felt, Guard, Index, Assigned, Left, Right, Wait, Estimate, Target, Seen}
use Rattle.steady_code.specs.Timed.{low_of}
use Rattle.flow_print.specs.Lines.{label_text, variable_text}
use Rattle.lab_steady.specs.Owner.{owner}
use Rattle.lab_steady.specs.Blame.{blamed_of}
use Rattle.lab_steady.specs.Mend.{kind_there, mend_line}

-- ---- a yes

-- how many of the first variables are seen
abbrev pub seen_below : (ℕ → Bool) → ℕ → ℕ
seen_below low zero = 0
seen_below low (suc n) = seen_below low n + cond (low n) 1 0

abbrev pub end_line : Bool → List ℕ
end_line true = codes "end asked\n"
end_line false = codes "end not asked\n"

-- a word where a test holds
abbrev pub word_if : Bool → List ℕ → List ℕ
word_if true t = t
word_if false t = []

-- no operator is named
abbrev pub is_empty : Constant → Bool
is_empty c = not (c.add || (c.subtract || (c.multiply || (c.divide || (c.remainder || c.compare)))))

-- the line of the operators that are named, where costs other than the table's are asked about
abbrev pub names_line : Constant → List ℕ
names_line c =
    codes "constant" ++ (word_if (is_empty c) (codes " none") ++ (word_if c.add (codes " add") ++ (word_if c.subtract (codes " subtract")
    ++ (word_if c.multiply (codes " multiply") ++ (word_if c.divide (codes " divide") ++ (word_if c.remainder (codes " remainder")
    ++ (word_if c.compare (codes " compare") ++ codes "\n")))))))

abbrev pub costing_line : Costing → List ℕ
costing_line Table = []
costing_line (Only c) = names_line c

-- what was asked
abbrev pub told_of : Costing → Syntax → ℕ → ℕ → Bool → List ℕ
told_of costing p o h whole =
    codes "steady\nobserver "
    ++ (label_text p.order o ++ (codes "\nparts " ++ (label_text p.order h ++ (codes "\n" ++ (costing_line costing ++ end_line whole)))))

-- how many variables the observer sees, of how many
abbrev pub sees_text : ℕ → ℕ → List ℕ
sees_text n m = codes "sees " ++ (decimal n ++ (codes " of " ++ (decimal m ++ codes " variables\n")))

abbrev pub yes_text : Costing → LabelledProgram → ℕ → ℕ → Bool → List ℕ
yes_text costing q o h whole =
    let m = variables q.program.declarations in
    told_of costing q.program o h whole ++ sees_text (seen_below (low_of (order_of q) (labels_of q) o) m) m

-- ---- a no

abbrev pub reason_text : Reason → List ℕ
reason_text Felt = codes "read label"
reason_text Guard = codes "guard"
reason_text Index = codes "index"
reason_text Assigned = codes "assigned"
reason_text Left = codes "operand"
reason_text Right = codes "operand"
reason_text Wait = codes "sleep"
reason_text Estimate = codes "estimate"
reason_text Target = codes "jump"
reason_text Seen = codes "shown"

-- the place of a command; HALT is of none
abbrev pub at_text : Option Pos → List ℕ
at_text None = codes "end"
at_text (Some p) = decimal p.line ++ (codes ":" ++ decimal p.column)

abbrev pub begin_text : Reason → Option Pos → List ℕ
begin_text r at = codes "unsteady " ++ (reason_text r ++ (codes " at " ++ at_text at))

-- `: H does not flow to L`
abbrev pub flow_text : Syntax → ℕ → ℕ → List ℕ
flow_text p have allowed = codes ": " ++ (label_text p.order have ++ (codes " does not flow to " ++ (label_text p.order allowed ++ codes "\n")))

-- a variable whose label the program writes: `NAME is declared H`
abbrev pub declared_line : LabelledProgram → ℕ → List ℕ
declared_line q x = variable_text q.program x ++ (codes " is declared " ++ (label_text q.program.order (labels_of q x) ++ codes "\n"))

-- the label of what is not seen, and the lines that tell of the variable
abbrev pub blame_lines : LabelledProgram → ℕ → List ℕ → Option ℕ → List ℕ
blame_lines q o lines None = codes "\n"
blame_lines q o lines (Some x) = flow_text q.program (labels_of q x) o ++ lines

-- a read label that is not below the parts that agree
abbrev pub felt_lines : LabelledProgram → ℕ → ℕ → List ℕ
felt_lines q h er =
    flow_text q.program er h ++ (codes "what environments keep for " ++ (label_text q.program.order er ++ codes " need not agree\n"))

abbrev pub is_felt : Reason → Bool
is_felt Felt = true
is_felt Guard = false
is_felt Index = false
is_felt Assigned = false
is_felt Left = false
is_felt Right = false
is_felt Wait = false
is_felt Estimate = false
is_felt Target = false
is_felt Seen = false

-- what follows the place of a fault, whose instruction this is; v is the variable to blame, and these lines tell of it
abbrev pub reason_lines : LabelledProgram → ℕ → ℕ → List ℕ → Option ℕ → Instr → Reason → List ℕ
reason_lines q o h lines v i r = cond (is_felt r) (felt_lines q h i.er.number) (blame_lines q o lines v)

abbrev pub instr_lines : LabelledProgram → ℕ → ℕ → List ℕ → Option ℕ → Option Instr → Reason → List ℕ
instr_lines q o h lines v None r = []
instr_lines q o h lines v (Some i) r = reason_lines q o h lines v i r

-- The reason and the place of a fault, the labels that do not flow, what is to blame, of which these lines tell, and a mend
-- where one is known.
abbrev pub no_text : Costing → LabelledProgram → ℕ → ℕ → List Token → List ℕ → Fault → List ℕ
no_text costing q o h tokens lines f =
    let at = owner (plan_of q.program) 0 f.place in
    begin_text f.reason at
    ++ (instr_lines q o h lines (blamed_of q o f) (slice_get (lowered q).instrs f.place) f.reason ++ mend_line costing (kind_there tokens at) f.reason)
