-- The sharp count of labelled programs for environments of which there is one for each lattice.
use Rattle.mit_syntax.specs.Program.{plan_of}
use Rattle.label_lattice.specs.Order.{Order}
use Rattle.timing_types.specs.Labelled.{LabelledProgram, labels_of, levels_of, bare_of}
use Rattle.env_contract.specs.Env.{Env}
use Rattle.code_lower.specs.Lowered.{lowered}
use Rattle.leak_bound.specs.Source.{IsTypedWith}
use Rattle.sharp_bound.specs.Sharp.{SharpSound, SharpCut}
use Rattle.sharp_bound.specs.End.{SharpEnd}
use Rattle.sharp_bound.specs.Shared.{SharpShared}
use Rattle.own_firsts.specs.Own.{SharpOwn}

module _ {E : Type 0} (v : Order → Env E) (serves : Order → E → Type 0) where
  abbrev pub LoweredSharpOver : Type 0
  LoweredSharpOver = (q : LabelledProgram) → IsTypedWith q →
      SharpSound (v q.program.order) q.program.order (serves q.program.order) (labels_of q) (levels_of q) (lowered q).instrs (plan_of q.program)

  abbrev pub LoweredSharpCutOver : Type 0
  LoweredSharpCutOver = (q : LabelledProgram) → IsTypedWith q →
      SharpCut (v q.program.order) q.program.order (serves q.program.order) (labels_of q) (levels_of q) (lowered q).instrs (plan_of q.program)

  -- whether the end label flows to the observer is said of the program with its labels
  abbrev pub LoweredSharpEndOver : Type 0
  LoweredSharpEndOver = (q : LabelledProgram) → IsTypedWith q →
      SharpEnd (v q.program.order) q.program.order (serves q.program.order) (labels_of q) (levels_of q) (lowered q).instrs (bare_of q) (plan_of q.program)

  abbrev pub LoweredSharedOver : Type 0
  LoweredSharedOver = (q : LabelledProgram) → IsTypedWith q →
      SharpShared (v q.program.order) q.program.order (serves q.program.order) (labels_of q) (levels_of q) (lowered q).instrs (plan_of q.program)

  -- each mitigation with its own first prediction
  abbrev pub LoweredOwnOver : Type 0
  LoweredOwnOver = (q : LabelledProgram) → IsTypedWith q →
      SharpOwn (v q.program.order) q.program.order (serves q.program.order) (labels_of q) (levels_of q) (lowered q).instrs (bare_of q) (plan_of q.program)
