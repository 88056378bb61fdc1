-- The main theorem's statement for environments of which there is one for each lattice.
use Rattle.std.specs.Prelude.{ℕ, List}
use Rattle.mit_syntax.specs.Todo.{Marked}
use Rattle.mit_syntax.specs.Program.{plan_of}
use Rattle.label_lattice.specs.Lattice.{IsLattice}
use Rattle.label_lattice.specs.Order.{Order, lattice_of}
use Rattle.timing_types.specs.Labelled.{LabelledProgram, labels_of, levels_of}
use Rattle.env_contract.specs.Env.{Env}
use Rattle.env_contract.specs.Laws.{IsLawful}
use Rattle.label_code.specs.declared.code.Instr.{Instr}
use Rattle.code_lower.specs.Lowered.{lowered}
use Rattle.leak_bound.specs.Sound.{Sound, ShowsOne, CutSound, IsCompiled}
use Rattle.leak_bound.specs.Source.{IsTypedWith}

module _ {E : Type 0} (v : Order → Env E) (serves : Order → E → Type 0) where
  -- the three laws hold for every lattice
  abbrev pub KeepsLaws : Type 0
  KeepsLaws = (order : Order) → IsLattice (lattice_of order) → IsLawful (v order) (lattice_of order) (serves order)

  -- every accepted program is sound in the environment of its lattice
  abbrev pub SoundOver : Type 0
  SoundOver = (order : Order) (g ls : ℕ → ℕ) (image : List Instr) (p : Marked) → IsCompiled order g ls image p
      → Sound (v order) order (serves order) g ls image p

  abbrev pub ShowsOneOver : Type 0
  ShowsOneOver = (order : Order) (g ls : ℕ → ℕ) (image : List Instr) (p : Marked) → IsCompiled order g ls image p
      → ShowsOne (v order) order (serves order) g ls image p

  abbrev pub CutSoundOver : Type 0
  CutSoundOver = (order : Order) (g ls : ℕ → ℕ) (image : List Instr) (p : Marked) → IsCompiled order g ls image p
      → CutSound (v order) order (serves order) g ls image p

  -- the image of every labelled program that is typed is sound there for the program that was read
  abbrev pub LoweredSoundOver : Type 0
  LoweredSoundOver = (q : LabelledProgram) → IsTypedWith q →
      Sound (v q.program.order) q.program.order (serves q.program.order) (labels_of q) (levels_of q) (lowered q).instrs (plan_of q.program)

  abbrev pub LoweredShowsOneOver : Type 0
  LoweredShowsOneOver = (q : LabelledProgram) → IsTypedWith q →
      ShowsOne (v q.program.order) q.program.order (serves q.program.order) (labels_of q) (levels_of q) (lowered q).instrs (plan_of q.program)

  abbrev pub LoweredCutSoundOver : Type 0
  LoweredCutSoundOver = (q : LabelledProgram) → IsTypedWith q →
      CutSound (v q.program.order) q.program.order (serves q.program.order) (labels_of q) (levels_of q) (lowered q).instrs (plan_of q.program)
