-- In every environment that keeps the laws, accepted programs are sound, and so is what `lower` makes of a labelled
-- program, for the program that was read.
use Rattle.mit_syntax.specs.Program.{plan_of}
use Rattle.label_lattice.specs.Order.{Order}
use Rattle.timing_types.specs.Labelled.{labels_of, levels_of, bare_of}
use Rattle.timing_types.proofs.Commands.{keep_commands}
use Rattle.env_contract.specs.Env.{Env}
use Rattle.code_lower.specs.Lowered.{lowered}
use Rattle.leak_bound.specs.Over.{KeepsLaws, SoundOver, ShowsOneOver, CutSoundOver, LoweredSoundOver, LoweredShowsOneOver, LoweredCutSoundOver}
use Rattle.leak_bound.proofs.Final.{is_sound, shows_one, is_cut_sound}
use Rattle.leak_bound.proofs.Source.{made_of, sound_same, shows_one_same, cut_sound_same}

module _ {E : Type 0} (v : Order → Env E) (serves : Order → E → Type 0) (laws : KeepsLaws v serves) where
  pub sound_over : SoundOver v serves
  sound_over order labels levels image p made = is_sound (v order) order labels levels image p made (laws order made.lattice)

  pub shows_one_over : ShowsOneOver v serves
  shows_one_over order labels levels image p made = shows_one (v order) order labels levels image p made (laws order made.lattice)

  pub cut_sound_over : CutSoundOver v serves
  cut_sound_over order labels levels image p made = is_cut_sound (v order) order labels levels image p made (laws order made.lattice)

module _ {E : Type 0} (v : Order → Env E) (serves : Order → E → Type 0) where
  pub lowered_sound : SoundOver v serves → LoweredSoundOver v serves
  lowered_sound h q is =
      sound_same (v q.program.order) q.program.order (serves q.program.order) (labels_of q) (levels_of q) (lowered q).instrs (bare_of q)
      (plan_of q.program) (keep_commands q)
      (h q.program.order (labels_of q) (levels_of q) (lowered q).instrs (bare_of q) (made_of q is))

  pub lowered_shows_one : ShowsOneOver v serves → LoweredShowsOneOver v serves
  lowered_shows_one h q is =
      shows_one_same (v q.program.order) q.program.order (serves q.program.order) (labels_of q) (levels_of q) (lowered q).instrs (bare_of q)
      (plan_of q.program) (keep_commands q)
      (h q.program.order (labels_of q) (levels_of q) (lowered q).instrs (bare_of q) (made_of q is))

  pub lowered_cut_sound : CutSoundOver v serves → LoweredCutSoundOver v serves
  lowered_cut_sound h q is =
      cut_sound_same (v q.program.order) q.program.order (serves q.program.order) (labels_of q) (levels_of q) (lowered q).instrs (bare_of q)
      (plan_of q.program) (keep_commands q)
      (h q.program.order (labels_of q) (levels_of q) (lowered q).instrs (bare_of q) (made_of q is))
