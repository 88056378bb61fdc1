-- The theorem's statement for a labelled program: its source is the program that is labelled.
use Rattle.std.specs.Prelude.{◌≡◌, ◌↔◌, ℕ, List, ℤ}
use Rattle.mit_syntax.specs.Program.{plan_of}
use Rattle.mit_syntax.specs.Valid.{AreNumbered}
use Rattle.label_lattice.specs.Lattice.{IsLattice}
use Rattle.label_lattice.specs.Order.{Order}
use Rattle.timing_types.specs.Arrays.{ArraysIn}
use Rattle.timing_types.specs.Labelling.{IsLabelling}
use Rattle.timing_types.specs.Labelled.{LabelledProgram, order_of, labels_of, levels_of, bare_of, HasType}
use Rattle.env_contract.specs.Env.{Env}
use Rattle.code_lower.specs.Lowered.{lowered}
use Rattle.leak_bound.specs.Relevant.{is_relevant, Begins}
use Rattle.leak_bound.specs.Sound.{Sound, ShowsOne, CutSound}

-- With labels and without them the same mitigates are relevant, and as many of them begin.
pub record SameCounts (q : LabelledProgram) : Type 0 where
  pub relevant : (o k : ℕ) →
      is_relevant (order_of q) (labels_of q) (levels_of q) o (bare_of q) k ≡ is_relevant (order_of q) (labels_of q) (levels_of q) o (plan_of q.program) k
  pub begins : (o : ℕ) (m : List ℤ) (k : ℕ) →
      Begins (order_of q) (labels_of q) (levels_of q) o (bare_of q) m k ↔ Begins (order_of q) (labels_of q) (levels_of q) o (plan_of q.program) m k

abbrev pub LabelsKeepCounts : Type 0
LabelsKeepCounts = (q : LabelledProgram) → SameCounts q

-- a program whose marks are numbered in the order of the text, with a labelling that types it and gives each array one label
pub record IsTypedWith (q : LabelledProgram) : Type 0 where
  pub lattice : IsLattice (order_of q)
  pub numbered : AreNumbered 0 (plan_of q.program)
  pub labelling : IsLabelling q.program q.labels
  pub arrays : ArraysIn (labels_of q) (plan_of q.program)
  pub typed : HasType q

-- its image is sound for the program that is labelled
abbrev pub LoweredSoundAll : {E : Type 0} → Env E → (Order → E → Type 0) → Type 0
LoweredSoundAll v serves = (q : LabelledProgram) → IsTypedWith q →
    Sound v q.program.order (serves q.program.order) (labels_of q) (levels_of q) (lowered q).instrs (plan_of q.program)

abbrev pub LoweredShowsOneAll : {E : Type 0} → Env E → (Order → E → Type 0) → Type 0
LoweredShowsOneAll v serves = (q : LabelledProgram) → IsTypedWith q →
    ShowsOne v q.program.order (serves q.program.order) (labels_of q) (levels_of q) (lowered q).instrs (plan_of q.program)

abbrev pub LoweredCutSoundAll : {E : Type 0} → Env E → (Order → E → Type 0) → Type 0
LoweredCutSoundAll v serves = (q : LabelledProgram) → IsTypedWith q →
    CutSound v q.program.order (serves q.program.order) (labels_of q) (levels_of q) (lowered q).instrs (plan_of q.program)
