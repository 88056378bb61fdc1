-- The sharp count for a labelled program: its source is the program that is labelled.
use Rattle.mit_syntax.specs.Program.{plan_of}
use Rattle.label_lattice.specs.Order.{Order}
use Rattle.timing_types.specs.Labelled.{LabelledProgram, labels_of, levels_of, bare_of}
use Rattle.env_contract.specs.Env.{Env}
use Rattle.code_lower.specs.Lowered.{lowered}
use Rattle.leak_bound.specs.Source.{IsTypedWith}
use Rattle.sharp_bound.specs.Sharp.{SharpSound, SharpCut}
use Rattle.sharp_bound.specs.End.{SharpEnd}
use Rattle.sharp_bound.specs.Shared.{SharpShared}

abbrev pub LoweredSharpAll : {E : Type 0} → Env E → (Order → E → Type 0) → Type 0
LoweredSharpAll v serves = (q : LabelledProgram) → IsTypedWith q →
    SharpSound v q.program.order (serves q.program.order) (labels_of q) (levels_of q) (lowered q).instrs (plan_of q.program)

abbrev pub LoweredSharpCutAll : {E : Type 0} → Env E → (Order → E → Type 0) → Type 0
LoweredSharpCutAll v serves = (q : LabelledProgram) → IsTypedWith q →
    SharpCut v q.program.order (serves q.program.order) (labels_of q) (levels_of q) (lowered q).instrs (plan_of q.program)

-- whether the end label flows to the observer is said of the program with its labels
abbrev pub LoweredSharpEndAll : {E : Type 0} → Env E → (Order → E → Type 0) → Type 0
LoweredSharpEndAll v serves = (q : LabelledProgram) → IsTypedWith q →
    SharpEnd v q.program.order (serves q.program.order) (labels_of q) (levels_of q) (lowered q).instrs (bare_of q) (plan_of q.program)

abbrev pub LoweredSharedAll : {E : Type 0} → Env E → (Order → E → Type 0) → Type 0
LoweredSharedAll v serves = (q : LabelledProgram) → IsTypedWith q →
    SharpShared v q.program.order (serves q.program.order) (labels_of q) (levels_of q) (lowered q).instrs (plan_of q.program)
