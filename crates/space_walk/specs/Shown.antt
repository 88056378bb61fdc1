-- What the runs from the starts of a space show, by the numbers of the starts.
use Rattle.std.specs.Prelude.{ℕ, List}
use Rattle.env_contract.specs.declared.place.Touch.{Touch}
use Rattle.env_contract.specs.Env.{Env}
use Rattle.label_lattice.specs.Order.{Order}
use Rattle.timing_types.specs.Labelled.{LabelledProgram}
use Rattle.label_code.specs.Machine.{Event}
use Rattle.cycle_machine.specs.declared.end.RunEnd.{RunEnd}
use Rattle.cycle_machine.specs.Rest.{told_by}
use Rattle.space_starts.specs.Space.{SpaceValue, start_at}
use Rattle.leak_audit.specs.Agreement.{start_of}
use Rattle.leak_audit.specs.Surveyed.{run_of, sequence_from}

module _ {E : Type 0} (v : Env E) (made : Order → List Touch → E) (p : LabelledProgram) where
  -- what an observer sees up to T of the run from the start with a number, from 0
  abbrev pub shown_at : ℕ → ℕ → SpaceValue → ℕ → List Event
  shown_at o t s n = sequence_from v p o t (start_of made p.program.order (start_at s n))

  -- how that run has ended
  abbrev pub end_at : ℕ → SpaceValue → ℕ → RunEnd
  end_at t s n = (told_by (run_of v p t (start_of made p.program.order (start_at s n)))).end

-- each start weighs the same
abbrev pub one : ℕ → ℕ
one n = 1
