-- The image of a labelled program, and why there is none.
use Rattle.std.specs.Prelude.{◌≡◌, ◌<◌, List, length}
use Rattle.mit_syntax.specs.Declarations.{variables}
use Rattle.mit_syntax.specs.Program.{plan_of}
use Rattle.timing_types.specs.Labelled.{LabelledProgram, order_of, labels_of, bare_of}
use Rattle.source_meaning.specs.Same.{MeansSame}
use Rattle.env_contract.specs.Env.{Env}
use Rattle.label_code.specs.declared.code.Instr.{Instr}
use Rattle.label_code.specs.Shaped.{Code}
use Rattle.code_lower.specs.Code.{image_of}
use Rattle.code_lower.specs.Depth.{most_operands, deepest}
use Rattle.code_lower.specs.Follows.{KeepsOrder}
use Rattle.code_lower.specs.declared.lower.LowerFault.{LowerFault}
use Rattle.code_lower.specs.declared.lower.LowerFault.TheVariants.{TooLong, Memory}

-- its instructions, of whatever number
abbrev pub instrs_of : LabelledProgram → List Instr
instrs_of p = image_of (order_of p) (labels_of p) (bare_of p)

-- and all of it
abbrev pub lowered : LabelledProgram → Code
lowered p =
    record {
      instrs = instrs_of p;
      variables = variables p.program.declarations;
      order = p.program.order;
      operands = most_operands (bare_of p);
      nesting = deepest (bare_of p);
    }

-- the image has more than 200,000 instructions, and this is their number
abbrev pub IsLowerFault : LabelledProgram → LowerFault → Type 0
IsLowerFault p (TooLong count) = (200000 < count) × (count ≡ length (lowered p).instrs)
IsLowerFault p Memory = Unit {0}

-- every labelled program means what the program does that it labels
abbrev pub LabelsKeepMeaning : Type 0
LabelsKeepMeaning = (p : LabelledProgram) → MeansSame (bare_of p) (plan_of p.program)

-- the image of every labelled program does what the program does that it labels
abbrev pub LoweredKeepsOrder : {E : Type 0} → Env E → Type 0
LoweredKeepsOrder {E} v = (p : LabelledProgram) → KeepsOrder v (lowered p).instrs (plan_of p.program)
